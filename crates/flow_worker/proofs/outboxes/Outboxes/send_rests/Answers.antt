use Rattle.flow_worker.proofs.Outgoing.{on_err, rests-stopped}
use Rattle.flow_worker.proofs.outboxes.Outboxes.send_rests.Goals as goal

pub returns-in_err-send_rest-clause-err : goal.returns-in_err-send_rest-clause-err
returns-in_err-send_rest-clause-err g c =
    on_err c.from_residual.result _ (rests-stopped c.args.self.now c.loop-lane.self c.send_rest.new.self c.loop-lane.lane c.loop-lane.invariant
    c.in_err-send_rest.ensures)
