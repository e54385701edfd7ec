-- A report of which only the front was read.
use Rattle.std.proofs.Common.{◌≡◌, ◌≤◌, ℕ, List, length, take, take_all, arith, ap, ◌∙◌, sym, subst, inl, inr}
use Rattle.std.proofs.lemmas.Bool.{cases_lt}
use Rattle.std.proofs.lemmas.List.{length-take-le}
use Rattle.timing_report.specs.json_report.Reading.{IsReport}
use Rattle.timing_report.specs.declared.json_report.reading.ReportProof.{ReportProof}

-- one byte more than a report may have tells it all
pub report-front : (text bytes : List ℕ) (claims : List ReportProof) → bytes ≡ take 16777217 text → IsReport bytes claims → IsReport text claims
report-front text bytes claims e h = elim (cases_lt 16777216 (length text)) as (λ _. IsReport text claims) [
  | inl long ↦
      let front : length (take 16777217 text) ≡ 16777217 = length-take-le 16777217 text (omega (arith, long)) in
      let few : length bytes ≤ 16777216 = h.few in
      absurd (omega (arith, front, few, ap length e))
  | inr short ↦ subst (λ (l : List ℕ). IsReport l claims) (e ∙ take_all 16777217 text (omega (arith, short))) h
]

pub no-report-front : (text bytes : List ℕ) → bytes ≡ take 16777217 text → ((claims : List ReportProof) → ¬ IsReport bytes claims) → (claims : List ReportProof)
    → ¬ IsReport text claims
no-report-front text bytes e none claims h =
    none claims (subst (λ (l : List ℕ). IsReport l claims) (sym (e ∙ take_all 16777217 text (few-enough (length text) h.few))) h)
  where
    few-enough : (n : ℕ) → n ≤ 16777216 → n ≤ 16777217
    few-enough n h = omega (arith, h)
