use Rattle.std.proofs.Common.{refl}
use Rattle.flow_worker.specs.Messages.{batch}
use Rattle.flow_worker.proofs.Outgoing.{sends-then, set-same}
use Rattle.flow_worker.proofs.outboxes.Outboxes.send_batch.Goals as goal

pub returns : goal.returns
returns g c =
    sends-then c.args.self.now c.send.new.self _ c.args.lane (batch c.args.self.now.file c.args.packets) c.in_ok-send.ensures refl refl refl
    (set-same c.send.new.self.passes.items c.args.lane c.index_mut.result.now c.wait_for_room.new.pass c.index_mut.ensures.value c.wait_for_room.ensures.same)
