use Rattle.flow_worker.proofs.Reported.{rows-keys}
use Rattle.flow_worker.proofs.laws.keys_in_order.Goals as goal

pub returns : goal.returns
returns c = rows-keys
