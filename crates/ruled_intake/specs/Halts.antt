-- The identity of a halt, and of one that was raised. Two halts that exist at the same time differ.
use Rattle.std.specs.Prelude.{ℕ, List}
use Rattle.ruled_intake.specs.Lanes.{LaneId}

-- identity of a halt
abbrev pub HaltId : Type 0
HaltId = ℕ

-- a halt that was raised, and the lanes with the workers that were woken for it
pub record Raised : Type 0 where
  pub halt : HaltId
  pub woken : List LaneId
