-- The conditions between the steps that open inputs.
use Rattle.std.specs.Prelude.{◌≡◌, ◌<◌, ℕ, ⊤, List, [], ◌∷◌, ◌++◌, length, All, Option, Result, IfOk, IfErr}
use Rattle.timing_outside.specs.Causes.{Rose}
use Rattle.timing_outside.specs.declared.shelf.OpenFault.{OpenFault}
use Rattle.timing_outside.specs.declared.shelf.OpenFault.TheVariants as why
use Rattle.timing_report.specs.declared.status.Input.{Input}
use Rattle.timing_report.specs.declared.status.Input.TheVariants.{Capture}
use Rattle.timing_steps.specs.Answers.{AreTold, CaptureRose, OnReadFault}
use Rattle.timing_steps.specs.declared.failure.Failure.{Failure}
use Rattle.timing_steps.specs.declared.failure.Failure.TheVariants as failure

-- the sources are those of these names, each at its start and without a failed read
abbrev pub AreFetched : {S : Type 0} → (name : S → List ℕ) → (left : S → Option (List ℕ)) → (faults : S → ℕ)
    → (texts : List ℕ → Option (List ℕ)) → List (List ℕ) → List S → Type 0
AreFetched name left faults texts [] [] = ⊤
AreFetched name left faults texts [] (s ∷ ss) = ⊥
AreFetched name left faults texts (n ∷ ns) [] = ⊥
AreFetched name left faults texts (n ∷ ns) (s ∷ ss) =
    (name s ≡ n) × (left s ≡ texts n) × (faults s ≡ 0) × AreFetched name left faults texts ns ss

-- the failure if this input couldn't be opened or read
abbrev pub unread : OpenFault → Input → Failure
unread why.Failed i = failure.ReadFault i
unread why.OutOfMemory i = failure.OutOfMemory

-- of all sources, those in `ahead` haven't gone back to the shelf yet; for every other one with a failed read the count
-- of faults of its name rose
pub record Returning {S : Type 0} (name : S → List ℕ) (faults : S → ℕ) (before now : List ℕ → ℕ) (all ahead : List S) :
    Type 0 where
  pub done : List S
  pub whole : all ≡ done ++ ahead
  pub raised : All (λ s. 0 < faults s → Rose (before (name s)) (now (name s))) done

-- the first `number` of these captures were read, and `Found` holds of their contents; the sources of the others are in
-- `rest`. Or one couldn't be read
pub record Reading {S : Type 0} (name : S → List ℕ) (left : S → Option (List ℕ)) (faults : S → ℕ)
    (texts : List ℕ → Option (List ℕ)) (before now : List ℕ → ℕ) (names : List (List ℕ))
    (rest : List S) (outcome : Result (Unit {0}) Failure) (number : ℕ) (Found : List (List ℕ) → Type 0) : Type 0 where
  pub done : List (List ℕ)
  pub ahead : List (List ℕ)
  pub whole : names ≡ done ++ ahead
  pub fetched : AreFetched name left faults texts ahead rest
  pub count : IfOk outcome (λ _. number ≡ length done)
  pub told : IfOk outcome (λ _. (read : List (List ℕ)) → AreTold texts done read → Found read)
  pub cause : IfErr outcome
      (λ e. OnReadFault e (λ i. (number : ℕ) × (i ≡ Capture number) × CaptureRose before now names number))
