use Rattle.flow_measure.proofs.Unique.{slope-once}
use Rattle.flow_measure.proofs.laws.one_slope.Goals as goal

pub returns : goal.returns
returns c = slope-once
