use Rattle.std.proofs.Common.{◌∙◌, sym}
use Rattle.frame_group.proofs.Steps.{count-here, count-other}
use Rattle.frame_group.proofs.grouper.Grouper.cuts_with.Goals as goal

pub returns-in-Some-clause-are : goal.returns-in-Some-clause-are
returns-in-Some-clause-are c = λ packets i kept cut. count-here packets i _ c.args.self.now.cuts (sym cut ∙ c.in-Some.is) kept.cut_count

pub returns-in-None-clause-are : goal.returns-in-None-clause-are
returns-in-None-clause-are c = λ packets i kept cut. count-other packets i c.args.self.now.cuts (sym cut ∙ c.in-None.is) kept.cut_count
