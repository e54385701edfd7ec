use Rattle.flow_worker.proofs.lemmas.crew.Keys.{push_file}
use Rattle.flow_worker.proofs.crew.gather.list_keys.Goals as goal

pub loop-file-preserved : goal.loop-file-preserved
loop-file-preserved c =
    push_file c.loop-file.keys.items c.push_keys.new.keys.items c.loop-file.file c.args.media c.loop-file.invariant c.in_ok-push_keys.ensures
