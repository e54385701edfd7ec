use Rattle.flow_worker.proofs.Leading.{ends_by_some}
use Rattle.flow_worker.proofs.laws.runs_can_end.Goals as goal

pub returns : goal.returns
returns c = ends_by_some
