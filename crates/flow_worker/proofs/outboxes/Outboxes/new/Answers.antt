use Rattle.flow_worker.proofs.Passes.{sent_of-none}
use Rattle.flow_worker.proofs.outboxes.Outboxes.new.Goals as goal

pub returns-in-Ok-clause-sent : goal.returns-in-Ok-clause-sent
returns-in-Ok-clause-sent c = λ w below. sent_of-none c.args.file c.args.lanes.now c.args.passes.items w c.requires below
