use Rattle.flow_measure.proofs.Existing.{numbers-some}
use Rattle.flow_measure.proofs.laws.some_measure.Goals as goal

pub returns : goal.returns
returns c = numbers-some
