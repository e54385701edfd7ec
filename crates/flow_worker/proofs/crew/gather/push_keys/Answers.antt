use Rattle.flow_worker.proofs.lemmas.crew.Keys.{push_key}
use Rattle.flow_worker.proofs.crew.gather.push_keys.Goals as goal

pub loop-number-preserved : goal.loop-number-preserved
loop-number-preserved c =
    push_key c.args.keys.now.items c.push.new.self.items c.loop-number.keys.items c.args.file c.loop-number.number c.loop-number.invariant
    c.in_ok-push.ensures.items
