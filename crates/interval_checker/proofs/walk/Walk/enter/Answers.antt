use Rattle.std.proofs.Common.{sym, ◌∙◌}
use Rattle.interval_checker.proofs.Asks.{no_less-same}
use Rattle.interval_checker.proofs.Walking.{other-keeps}
use Rattle.interval_checker.proofs.walk.Walk.enter.Goals as goal

pub returns-then-cut-clause-keeps : goal.returns-then-cut-clause-keeps
returns-then-cut-clause-keeps c = λ pt shift packets i k e. c.cut.ensures.keeps pt shift packets i k (sym e ∙ c.if-cut.true)

pub returns-else-cut-clause-keeps : goal.returns-else-cut-clause-keeps
returns-else-cut-clause-keeps c = λ pt shift packets i k e. other-keeps pt shift packets i c.args.self.now k (sym e ∙ c.if-cut.false)

pub returns-else-cut-clause-asked : goal.returns-else-cut-clause-asked
returns-else-cut-clause-asked c = no_less-same c.args.self.now.asked
