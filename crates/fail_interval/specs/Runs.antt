-- The state of a `RunJudge` after packets of its run.
use Rattle.std.specs.Prelude.{◌≡◌, ◌≤◌, ℕ, ⊤, Bool, true, false, List, length, OnOk, Result}
use Rattle.timing_base.specs.Media.{Media}
use Rattle.fail_interval.specs.Groups.{IsWhole}
use Rattle.fail_interval.specs.SoFar.{AreStamps, Fits, SoFar, in_first, in_groups, in_head, so_far_next}
use Rattle.fail_interval.specs.declared.run.RunJudge.{RunJudge}
use Rattle.fail_interval.specs.declared.run.RunJudge.TheVariants.{Head, First, Groups}

-- the state is that of this run
abbrev pub StandsFor : {M : Type 0} → Media → RunJudge M → SoFar → Type 0
StandsFor m (Head packets) (in_head head) = packets ≡ head
StandsFor m (First head group) (in_first so_far stamps) = (head ≡ so_far) × (group.stamps.items ≡ stamps)
StandsFor m (Groups judge) (in_groups so_far) = IsWhole m judge so_far
StandsFor m _ _ = ⊥

-- the first frame or field of the run is complete
abbrev pub has_groups : {M : Type 0} → RunJudge M → Bool
has_groups (Head packets) = false
has_groups (First head group) = false
has_groups (Groups judge) = true

-- the state is that of this run, and a packet at this instant may be the next one
pub record CanGoOn {M : Type 0} (m : Media) (judge : RunJudge M) (so_far : SoFar) (at : ℕ) (marker : Bool) : Type 0
  where
    pub stands : StandsFor m judge so_far
    pub fits : Fits (so_far_next so_far at marker)

-- a packet at this instant may be the next one, after some packets
abbrev pub IsOpenTo : {M : Type 0} → Media → RunJudge M → (at : ℕ) → (marker : Bool) → Type 0
IsOpenTo m judge at marker = ∥ ((so_far : SoFar) × CanGoOn m judge so_far at marker) ∥₁

-- a call took a packet after those of the run so far, unless memory ran out
abbrev pub TakesNext : {M T E : Type 0} → Media → (old new : RunJudge M) → (at : ℕ) → (marker : Bool) → Result T E
    → Type 0
TakesNext m old new at marker result =
    (so_far : SoFar) → CanGoOn m old so_far at marker → OnOk result (StandsFor m new (so_far_next so_far at marker))

-- the capture timestamps of a complete first frame or field are within the limits
pub record FitsWhole (stamps : List ℕ) : Type 0 where
  pub some : 1 ≤ length stamps
  pub most : length stamps ≤ 262144
  pub fit : AreStamps stamps

-- the first frame or field, if it has begun and isn't complete yet, is within the limits
abbrev pub IsWholeFirst : {M : Type 0} → RunJudge M → Type 0
IsWholeFirst (Head packets) = ⊤
IsWholeFirst (First head group) = FitsWhole group.stamps.items
IsWholeFirst (Groups judge) = ⊤
