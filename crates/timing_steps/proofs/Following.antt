-- What a later part of a run saw of captures, as what the whole run saw.
use Rattle.std.proofs.Common.{◌≡◌, ◌≤◌, ℕ, List, [], ◌∷◌, Option, arith, ◌∙◌, sym}
use Rattle.std.specs.Prelude.{IfErr, Result, Ok, Err}
use Rattle.timing_outside.specs.Causes.{Rose}
use Rattle.timing_report.specs.declared.status.Input.TheVariants as input
use Rattle.timing_steps.specs.Answers.{AreTold, CaptureRose, OnReadFault}
use Rattle.timing_steps.specs.Fetched.{AreFetched}
use Rattle.timing_steps.specs.declared.failure.Failure.{Failure}
use Rattle.timing_steps.proofs.Readings.{on-map}

-- counts that rose since a later one rose since an earlier one
pub capture-earlier : (before mid now : List ℕ → ℕ) (names : List (List ℕ)) (e : Failure) → ((n : List ℕ) → before n ≤ mid n)
    → OnReadFault e (λ x. (number : ℕ) × (x ≡ input.Capture number) × CaptureRose mid now names number)
    → OnReadFault e (λ x. (number : ℕ) × (x ≡ input.Capture number) × CaptureRose before now names number)
capture-earlier before mid now names e later h = on-map e _ (λ x. (number : ℕ) × (x ≡ input.Capture number) × CaptureRose before now names number) (λ x c. (
  c.0,
  c.1,
  record {
    within = c.2.within;
    rose = rose-from _ _ _ (later _) c.2.rose;
  },
)) h
  where
    rose-from : (a b c : ℕ) → a ≤ b → Rose b c → Rose a c
    rose-from a b c h r = omega (arith, h, r)

-- the same of an outcome
pub captures-earlier : {T : Type 0} (before mid now : List ℕ → ℕ) (names : List (List ℕ)) (outcome : Result T Failure) → ((n : List ℕ) → before n ≤ mid n)
    → IfErr outcome (λ e. OnReadFault e (λ x. (number : ℕ) × (x ≡ input.Capture number) × CaptureRose mid now names number))
    → IfErr outcome (λ e. OnReadFault e (λ x. (number : ℕ) × (x ≡ input.Capture number) × CaptureRose before now names number))
captures-earlier before mid now names (Ok t) later h = tt
captures-earlier before mid now names (Err e) later h = capture-earlier before mid now names e later h

-- texts that are the same are told the same
pub told-same : (texts also : List ℕ → Option (List ℕ)) (names read : List (List ℕ)) → ((n : List ℕ) → also n ≡ texts n) → AreTold texts names read
    → AreTold also names read
told-same texts also [] [] same h = tt
told-same texts also [] (t ∷ ts) same h = absurd h
told-same texts also (n ∷ ns) [] same h = absurd h
told-same texts also (n ∷ ns) (t ∷ ts) same h = (same n ∙ h.0, told-same texts also ns ts same h.1)

pub fetched-same : {S : Type 0} (name : S → List ℕ) (left : S → Option (List ℕ)) (faults : S → ℕ) (texts also : List ℕ → Option (List ℕ))
    (names : List (List ℕ)) (sources : List S)
    → ((n : List ℕ) → also n ≡ texts n) → AreFetched name left faults texts names sources → AreFetched name left faults also names sources
fetched-same name left faults texts also [] [] same h = tt
fetched-same name left faults texts also [] (s ∷ ss) same h = absurd h
fetched-same name left faults texts also (n ∷ ns) [] same h = absurd h
fetched-same name left faults texts also (n ∷ ns) (s ∷ ss) same h = (h.0, h.1 ∙ sym (same n), h.2, fetched-same name left faults texts also ns ss same h.3)
