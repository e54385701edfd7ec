-- What the limits of a run say of its next packet.
use Rattle.std.proofs.Common.{◌≡◌, ◌≤◌, ◌<◌, ◌+◌, ◌^◌, ℕ, List, [], ◌∷◌, ◌++◌, length, length-append, arith, inl, inr}
use Rattle.std.specs.Prelude.{slice_index}
use Rattle.std.proofs.Props.{props}
use Rattle.std.proofs.Math.Seq.{get_or-append_seam}
use Rattle.std.proofs.Math.Logic.{∥∥₁_elim}
use Rattle.std.proofs.lemmas.List.{get_or_append_left}
use Rattle.std.proofs.lemmas.Bool.{cases_lt}
use Rattle.sender_params.specs.declared.params.Params.{Params}
use Rattle.fail_interval.specs.Meters.{CanFollow}
use Rattle.fail_interval.specs.SoFar.{AreStamps}
use Rattle.fail_interval.specs.declared.meters.RunMeters.{RunMeters}

-- the last of some stamps is not below the first
pub first-low : (stamps : List ℕ) (at : ℕ) → AreStamps (stamps ++ at ∷ []) → 1 ≤ length stamps → slice_index stamps 0 ≤ at
first-low stamps at fit some =
    let long : length (stamps ++ at ∷ []) ≡ length stamps + 1 = length-append stamps (at ∷ []) in
    let rise = fit.ordered 0 (length stamps) (omega arith) (omega (arith, long)) in
    omega (arith, rise, get_or_append_left stamps (at ∷ []) 0 0 some, get_or-append_seam stamps at [] 0)

-- the last of some stamps is early
pub last-early : (stamps : List ℕ) (at : ℕ) → AreStamps (stamps ++ at ∷ []) → at < 2 ^ 62
last-early stamps at fit =
    let long : length (stamps ++ at ∷ []) ≡ length stamps + 1 = length-append stamps (at ∷ []) in
    omega (arith, fit.early (length stamps) 0 (omega (arith, long)), get_or-append_seam stamps at [] 0)

-- fewer stood before it
pub before-few : (stamps : List ℕ) (at : ℕ) → AreStamps (stamps ++ at ∷ []) → length stamps < 2 ^ 41
before-few stamps at fit = omega (arith, fit.few, length-append stamps (at ∷ []))

pub record Bounds (params : Params) (meters : RunMeters) (at : ℕ) : Type 0 where
  pub begun : meters.bucket.origin ≤ at
  pub in_time : at < 2 ^ 62
  pub few : meters.bucket.seen < 2 ^ 41

pub bounds : (params : Params) (meters : RunMeters) (stamps : List ℕ) (at : ℕ) → CanFollow params meters stamps at → Bounds params meters at
bounds params meters stamps at c = record {
  begun = elim (cases_lt 0 (length stamps)) as (λ _. meters.bucket.origin ≤ at) [
    | inl some ↦ omega (arith, c.stands.fed.first some, first-low stamps at c.fit some)
    | inr none ↦ omega (arith, c.first (omega (arith, none)))
  ];
  in_time = last-early stamps at c.fit;
  few = omega (arith, c.stands.fed.bucket.seen, before-few stamps at c.fit);
}

pub bounds-known : (params : Params) (meters : RunMeters) (at : ℕ) → ∥ ((stamps : List ℕ) × CanFollow params meters stamps at) ∥₁ → Bounds params meters at
bounds-known params meters at known = ∥∥₁_elim known (hlevel props) (λ (stamps, c). bounds params meters stamps at c)
