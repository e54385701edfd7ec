use Rattle.flow_measure.proofs.Unique.{columns-once}
use Rattle.flow_measure.proofs.laws.one_list_of_columns.Goals as goal

pub returns : goal.returns
returns c = columns-once
