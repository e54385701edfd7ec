-- A text is a report of one list of fails, or of none.
use Rattle.std.proofs.Common.{◌≡◌, ◌<◌, ◌≤◌, ◌⊎◌, ℕ, true, false, true≢false, List, length, Option, Some, None, arith, refl, sym, ◌∙◌, inl, inr}
use Rattle.std.specs.Option.{option_and_then}
use Rattle.std.specs.Str.{is_utf8}
use Rattle.std.proofs.lemmas.Bool.{cases_Bool, cases_lt}
use Rattle.std.proofs.lemmas.Str.{IsUtf8-from_is_utf8, is_utf8-from_IsUtf8}
use Rattle.serde_json.specs.Read.{read}
use Rattle.timing_report.specs.json_report.Reading.{IsReport, report_of}
use Rattle.timing_report.specs.declared.json_report.reading.ReportProof.{ReportProof}

none-told : (claims : List ReportProof) → None ≡ Some claims → ⊥
none-told claims e = cc

same-told : (a b : List ReportProof) → Some a ≡ Some b → a ≡ b
same-told a b e = cc

-- a text is a report of some fails, or of none
pub report-decided : (bytes : List ℕ) → ((claims : List ReportProof) × IsReport bytes claims) ⊎ ((claims : List ReportProof) → ¬ IsReport bytes claims)
report-decided bytes = decided (cases_lt 16777216 (length bytes)) (cases_Bool (is_utf8 bytes)) (option_and_then report_of (read bytes)) refl
  where
    decided : (16777216 < length bytes) ⊎ (length bytes ≤ 16777216) → (is_utf8 bytes ≡ true) ⊎ (is_utf8 bytes ≡ false) → (told : Option (List ReportProof))
        → option_and_then report_of (read bytes) ≡ told
        → ((claims : List ReportProof) × IsReport bytes claims) ⊎ ((claims : List ReportProof) → ¬ IsReport bytes claims)
    decided (inl large) text told e = inr (λ claims h. let few = h.few in omega (arith, large, few))
    decided (inr few) (inr other) told e = inr (λ claims h. true≢false (sym (is_utf8-from_IsUtf8 bytes h.utf8) ∙ other))
    decided (inr few) (inl text) None e = inr (λ claims h. none-told claims (sym e ∙ h.tells))
    decided (inr few) (inl text) (Some claims) e = inl (claims, record { few = few; utf8 = IsUtf8-from_is_utf8 bytes text; tells = e })

-- and of one list of them
pub only-claims : (bytes : List ℕ) (a b : List ReportProof) → IsReport bytes a → IsReport bytes b → a ≡ b
only-claims bytes a b h k = same-told a b (sym h.tells ∙ k.tells)
