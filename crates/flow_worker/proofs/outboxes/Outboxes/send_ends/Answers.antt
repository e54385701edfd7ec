use Rattle.flow_worker.specs.Messages.{ending}
use Rattle.flow_worker.proofs.Outgoing.{on_err, ends-stopped}
use Rattle.flow_worker.proofs.outboxes.Outboxes.send_ends.Goals as goal

pub returns-in_err-send-clause-err : goal.returns-in_err-send-clause-err
returns-in_err-send-clause-err g c =
    on_err c.from_residual.result _
    (ends-stopped c.args.self.now c.loop-lane.self c.send.new.self (ending c.args.self.now.file c.args.note c.args.records) c.loop-lane.lane
    c.loop-lane.invariant c.in_err-send.ensures)
