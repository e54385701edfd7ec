use Rattle.timing_watch.proofs.Growing.{run-grows}
use Rattle.timing_watch.proofs.laws.runs_grow.Goals as goal

pub returns : goal.returns
returns c = λ m options before p old new first second. run-grows m options before p old new first second
