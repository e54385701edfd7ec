use Rattle.timing_top.proofs.ReadBack.{report-confirmed}
use Rattle.timing_top.proofs.laws.rows_are_confirmed.Goals as goal

pub returns : goal.returns
returns c = report-confirmed
