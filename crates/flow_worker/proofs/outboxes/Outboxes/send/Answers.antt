use Rattle.std.proofs.Common.{refl}
use Rattle.flow_worker.proofs.Outgoing.{sends-one, set-same, stays-same}
use Rattle.flow_worker.proofs.outboxes.Outboxes.send.Goals as goal
use Rattle.flow_worker.proofs.outboxes.Outboxes.send.Goals.{in-Ok, in-Err}

pub returns : goal.returns
returns g c = elim c.match-send.branch [
  | in-Ok w ↦
      rw w.result-is (sends-one _ _ c.args.lane c.args.message c.index_mut.result.now c.send.new.pass c.requires.are c.requires.lane refl refl refl refl
      c.index_mut.ensures.value w.in-Ok.ensures.ok)
  | in-Err w ↦
      rw w.result-is (stays-same _ _ c.requires.are refl refl refl
      (set-same c.args.self.now.passes.items c.args.lane c.index_mut.result.now c.send.new.pass c.index_mut.ensures.value w.in-Err.ensures.err.1))
]
