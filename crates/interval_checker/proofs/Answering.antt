-- Of each flow verdict, run and fail one answer is right, and one alone.
use Rattle.std.proofs.Common.{◌≡◌, ◌≤◌, ◌<◌, ◌+◌, ◌⊎◌, ℕ, zero, suc, Bool, true, false, List, [], ◌∷◌, length, map, refl, sym, ◌∙◌, arith, inl, inr}
use Rattle.std.specs.Prelude.{Result, Ok, Err}
use Rattle.std.proofs.lemmas.Bool.{cases_eq, cases_lt}
use Rattle.timing_base.specs.Judged.{FlowVerdict, JudgedRun, RunOutcome, absent, refused, gap, in_one_run, in_runs, no_whole_frame, whole_frames}
use Rattle.timing_base.specs.Media.{Media}
use Rattle.timing_base.specs.declared.fail.Broken.{Broken}
use Rattle.timing_base.specs.declared.fail.Broken.TheVariants.{Bucket, Over, Empty}
use Rattle.timing_base.specs.declared.fail.FailProof.{FailProof}
use Rattle.timing_base.specs.declared.media.Kind.{Kind}
use Rattle.timing_base.specs.declared.row.Unjudged.{Unjudged}
use Rattle.timing_base.specs.declared.row.Unjudged.TheVariants.{Absent, NoWholeFrame, Refused, Gap}
use Rattle.sender_params.specs.Keeps.{BreaksLimit, Confirms, arrived_by_read, held_at}
use Rattle.sender_params.specs.Limits.{c_max_of, gapped_of, vrx_full_of}
use Rattle.sender_params.specs.Ticks.{load_of}
use Rattle.interval_checker.specs.Checked.{Says, SaysAt, SaysJudged, SaysOutcome}

-- it holds, or it doesn't
abbrev Known : Type 0 → Type 0
Known P = P ⊎ (P → ⊥)

known-three : {A B C : Type 0} → Known A → Known B → Known C → Known (A × B × C)
known-three (inl a) (inl b) (inl c) = inl (a, b, c)
known-three (inl a) (inl b) (inr n) = inr (λ p. n p.2)
known-three (inl a) (inr n) r = inr (λ p. n p.1)
known-three (inr n) q r = inr (λ p. n p.0)

known-four : {A B C D : Type 0} → Known A → Known B → Known C → Known D → Known (A × B × C × D)
known-four (inl a) (inl b) (inl c) (inl d) = inl (a, b, c, d)
known-four (inl a) (inl b) (inl c) (inr n) = inr (λ p. n p.3)
known-four (inl a) (inl b) (inr n) s = inr (λ p. n p.2)
known-four (inl a) (inr n) r s = inr (λ p. n p.1)
known-four (inr n) q r s = inr (λ p. n p.0)

known-less : (a b : ℕ) → Known (a < b)
known-less a b = elim (cases_lt a b) as (λ _. Known (a < b)) [
  | inl h ↦ inl h
  | inr h ↦ inr (λ l. omega (arith, h, l))
]

known-most : (a b : ℕ) → Known (a ≤ b)
known-most a b = elim (cases_lt b a) as (λ _. Known (a ≤ b)) [
  | inl h ↦ inr (λ l. omega (arith, h, l))
  | inr h ↦ inl h
]

known-breaks : (m : Media) (n : ℕ) (stamps : List ℕ) (kind : Kind) (f : FailProof) (model : Broken) → Known (BreaksLimit m n stamps kind f model)
known-breaks m n stamps kind f Bucket =
    known-three (cases_eq f.limit (c_max_of m n kind)) (cases_eq f.count (load_of m n stamps f.from f.to)) (known-less f.limit f.count)
known-breaks m n stamps kind f Over =
    known-four (cases_eq f.limit (vrx_full_of m n kind)) (cases_eq f.from 0) (cases_eq f.count (held_at m n stamps (gapped_of kind) f.to))
    (known-less f.limit f.count)
known-breaks m n stamps kind f Empty =
    known-four (cases_eq f.limit (f.to + 1)) (cases_eq f.from f.to) (cases_eq f.count (arrived_by_read m n stamps kind f.to)) (known-less f.count f.limit)

known-confirms : (m : Media) (n : ℕ) (stamps : List ℕ) (kind : Kind) (f : FailProof) → Known (Confirms m n stamps kind f)
known-confirms m n stamps kind f =
    elim (known-three (known-most f.from f.to) (known-less f.to (length stamps)) (known-breaks m n stamps kind f f.model))
    as (λ _. Known (Confirms m n stamps kind f)) [
      | inl p ↦ inl record { ordered = p.0; judged = p.1; breaks = p.2 }
      | inr n ↦ inr (λ c. n (c.ordered, c.judged, c.breaks))
    ]

judged-one : (m : Media) (kind : Kind) (f : FailProof) (j : JudgedRun) → (answer : Result Bool Unjudged) × SaysJudged m kind f j answer
judged-one m kind f j = elim (known-confirms m j.n j.stamps kind f) as (λ _. (answer : Result Bool Unjudged) × SaysJudged m kind f j answer) [
  | inl c ↦ (Ok true, c)
  | inr n ↦ (Ok false, n)
]

outcome-one : (m : Media) (kind : Kind) (f : FailProof) (o : RunOutcome) → (answer : Result Bool Unjudged) × SaysOutcome m kind f o answer
outcome-one m kind f (no_whole_frame head) = (Err (NoWholeFrame head), refl)
outcome-one m kind f (whole_frames j) = judged-one m kind f j

at-one : (m : Media) (kind : Kind) (f : FailProof) (outcomes : List RunOutcome) (run : ℕ)
    → (answer : Result Bool Unjudged) × SaysAt m kind f outcomes run answer
at-one m kind f [] run = (Ok false, refl)
at-one m kind f (o ∷ os) zero = outcome-one m kind f o
at-one m kind f (o ∷ os) (suc run) = at-one m kind f os run

-- there is an answer
pub says-one : (m : Media) (kind : Kind) (f : FailProof) (run : ℕ) (verdict : FlowVerdict) → (answer : Result Bool Unjudged) × Says m kind f run verdict answer
says-one m kind f run absent = (Err Absent, refl)
says-one m kind f run (refused rec fault) = (Err (Refused rec fault), refl)
says-one m kind f run (gap rec expected got) = (Err (Gap rec expected got), refl)
says-one m kind f run (in_one_run outcome) = at-one m kind f (outcome ∷ []) run
says-one m kind f run (in_runs runs) = at-one m kind f (map (λ r. r.outcome) runs) run

judged-same : (m : Media) (kind : Kind) (f : FailProof) (j : JudgedRun) (a b : Result Bool Unjudged) → SaysJudged m kind f j a → SaysJudged m kind f j b → a ≡ b
judged-same m kind f j (Ok true) (Ok true) x y = refl
judged-same m kind f j (Ok true) (Ok false) x y = absurd (y x)
judged-same m kind f j (Ok true) (Err w) x y = absurd y
judged-same m kind f j (Ok false) (Ok true) x y = absurd (x y)
judged-same m kind f j (Ok false) (Ok false) x y = refl
judged-same m kind f j (Ok false) (Err w) x y = absurd y
judged-same m kind f j (Err w) b x y = absurd x

outcome-same : (m : Media) (kind : Kind) (f : FailProof) (o : RunOutcome) (a b : Result Bool Unjudged) → SaysOutcome m kind f o a → SaysOutcome m kind f o b
    → a ≡ b
outcome-same m kind f (no_whole_frame head) a b x y = x ∙ sym y
outcome-same m kind f (whole_frames j) a b x y = judged-same m kind f j a b x y

at-same : (m : Media) (kind : Kind) (f : FailProof) (outcomes : List RunOutcome) (run : ℕ) (a b : Result Bool Unjudged) → SaysAt m kind f outcomes run a
    → SaysAt m kind f outcomes run b → a ≡ b
at-same m kind f [] run a b x y = x ∙ sym y
at-same m kind f (o ∷ os) zero a b x y = outcome-same m kind f o a b x y
at-same m kind f (o ∷ os) (suc run) a b x y = at-same m kind f os run a b x y

-- and no other
pub says-same : (m : Media) (kind : Kind) (f : FailProof) (run : ℕ) (verdict : FlowVerdict) (a b : Result Bool Unjudged) → Says m kind f run verdict a
    → Says m kind f run verdict b → a ≡ b
says-same m kind f run absent a b x y = x ∙ sym y
says-same m kind f run (refused rec fault) a b x y = x ∙ sym y
says-same m kind f run (gap rec expected got) a b x y = x ∙ sym y
says-same m kind f run (in_one_run outcome) a b x y = at-same m kind f (outcome ∷ []) run a b x y
says-same m kind f run (in_runs runs) a b x y = at-same m kind f (map (λ r. r.outcome) runs) run a b x y
