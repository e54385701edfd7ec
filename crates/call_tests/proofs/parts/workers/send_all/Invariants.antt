use Rattle.ruled_intake.specs.Lanes.{AreSenders}
use Rattle.call_tests.proofs.parts.workers.send_all.Given as goal

abbrev pub invariant-loop-message : goal.invariant-loop-message
invariant-loop-message g l = (goal.iterator-loop-message g).can_next l.message-iterator × (goal.iterator-loop-message g).is_finite l.message-iterator
    × AreSenders l.lane l.passes.items
