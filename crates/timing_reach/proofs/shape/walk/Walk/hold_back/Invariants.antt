use Rattle.std.proofs.Common.{◌-◌, ℕ, List, length}
use Rattle.timing_base.specs.Captures.{Record}
use Rattle.timing_reach.specs.shape.Walking.{CanWalk, HasHeld, IsBefore}
use Rattle.timing_reach.proofs.shape.walk.Walk.hold_back.Given as goal

abbrev pub invariant-loop-self : goal.invariant-loop-self
invariant-loop-self l = record {
  can : CanWalk l.self;
  holds : (done : List ℕ) (rest : List Record) → IsBefore l.fn.self done rest → HasHeld l.least l.self done rest;
}

abbrev pub decreases-loop-self : goal.decreases-loop-self
decreases-loop-self l = length l.self.bytes.items - l.self.place
