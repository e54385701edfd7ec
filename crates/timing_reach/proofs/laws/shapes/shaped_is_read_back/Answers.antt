use Rattle.timing_reach.proofs.Rejudged.{shaped-again}
use Rattle.timing_reach.proofs.laws.shapes.shaped_is_read_back.Goals as goal

pub returns : goal.returns
returns c = shaped-again
