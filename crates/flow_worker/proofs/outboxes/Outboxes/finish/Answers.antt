use Rattle.flow_worker.proofs.Outgoing.{finish-begun, finish-ending, on_err, on_err-then}
use Rattle.flow_worker.proofs.outboxes.Outboxes.finish.Goals as goal

pub returns-in_err-send_rests-clause-err : goal.returns-in_err-send_rests-clause-err
returns-in_err-send_rests-clause-err g c =
    on_err c.from_residual.result _ (λ w below. finish-begun c.args.self.now c.send_rests.new.self c.args.note c.args.records c.in_err-send_rests.ensures.err w)

pub returns-clause-err : goal.returns-clause-err
returns-clause-err g c =
    on_err-then c.send_ends.result _ _
    (λ begun. finish-ending c.args.self.now c.send_rests.new.self c.send_ends.new.self c.args.note c.args.records c.in_ok-send_rests.ensures.same
    c.in_ok-send_rests.ensures.ok begun)
    c.send_ends.ensures.err
