use Rattle.flow_worker.specs.Messages.{ending}
use Rattle.flow_worker.proofs.Outgoing.{EndsUpTo}
use Rattle.flow_worker.proofs.outboxes.Outboxes.send_ends.Given as goal

abbrev pub invariant-loop-lane : goal.invariant-loop-lane
invariant-loop-lane g l = EndsUpTo l.fn.self l.self (ending l.fn.self.file l.note l.records) l.lane
