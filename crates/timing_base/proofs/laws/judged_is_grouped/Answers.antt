use Rattle.timing_base.proofs.Grouped.{judged-grouped}
use Rattle.timing_base.proofs.laws.judged_is_grouped.Goals as goal

pub returns : goal.returns
returns c = judged-grouped
