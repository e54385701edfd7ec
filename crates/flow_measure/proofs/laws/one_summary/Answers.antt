use Rattle.flow_measure.proofs.Unique.{summary-once}
use Rattle.flow_measure.proofs.laws.one_summary.Goals as goal

pub returns : goal.returns
returns c = summary-once
