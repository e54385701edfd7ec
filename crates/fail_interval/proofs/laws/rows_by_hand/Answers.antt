use Rattle.fail_interval.proofs.HandWorked.{file-rows, joined-rows}
use Rattle.fail_interval.proofs.laws.rows_by_hand.Goals as goal

pub returns : goal.returns
returns c = record { files = file-rows; joined = joined-rows }
