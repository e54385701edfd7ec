use Rattle.timing_reach.specs.shape.Walking.{PassesAll}
use Rattle.timing_reach.proofs.shape.walk.Walk.skip.Given as goal

abbrev pub invariant-loop : goal.invariant-loop
invariant-loop l = PassesAll l.counter l.fn.self l.self
