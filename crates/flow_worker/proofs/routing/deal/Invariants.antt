use Rattle.flow_worker.specs.Sending.{AreDealt}
use Rattle.flow_worker.proofs.routing.deal.Given as goal

abbrev pub invariant-loop-number : goal.invariant-loop-number
invariant-loop-number l = AreDealt l.fn.file l.fn.media l.fn.lanes l.number l.dealt
