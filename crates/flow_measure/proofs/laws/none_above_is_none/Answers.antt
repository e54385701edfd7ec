use Rattle.flow_measure.proofs.Counted.{none-above, none-below}
use Rattle.flow_measure.proofs.laws.none_above_is_none.Goals as goal

pub returns-clause-above : goal.returns-clause-above
returns-clause-above c = none-above

pub returns-clause-below : goal.returns-clause-below
returns-clause-below c = none-below
