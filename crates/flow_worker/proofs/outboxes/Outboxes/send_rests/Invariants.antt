use Rattle.flow_worker.proofs.Outgoing.{RestsUpTo}
use Rattle.flow_worker.proofs.outboxes.Outboxes.send_rests.Given as goal

abbrev pub invariant-loop-lane : goal.invariant-loop-lane
invariant-loop-lane g l = RestsUpTo l.fn.self l.self l.lane
