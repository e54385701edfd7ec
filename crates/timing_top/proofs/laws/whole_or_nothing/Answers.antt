use Rattle.timing_steps.specs.Answers.{seen_of}
use Rattle.timing_top.proofs.Serving.{runs-whole}
use Rattle.timing_top.proofs.laws.whole_or_nothing.Goals as goal

pub returns : goal.returns
returns g c = λ asked old new. runs-whole asked (seen_of g.H.Shelf old new)
