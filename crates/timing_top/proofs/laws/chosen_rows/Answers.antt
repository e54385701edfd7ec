use Rattle.timing_top.proofs.ChosenRows.{rows-chosen-of}
use Rattle.timing_top.proofs.laws.chosen_rows.Goals as goal

pub returns : goal.returns
returns c = rows-chosen-of
