use Rattle.std.proofs.Common.{◌∙◌, sym}
use Rattle.frame_group.proofs.Steps.{enters-cut, enters-run}
use Rattle.frame_group.proofs.grouper.Grouper.group_at.Goals as goal

pub returns-in-Some-clause-is : goal.returns-in-Some-clause-is
returns-in-Some-clause-is c = λ packets i kept cut. enters-cut packets i _ (sym cut ∙ c.in-Some.is)

pub returns-in-None-clause-is : goal.returns-in-None-clause-is
returns-in-None-clause-is c = λ packets i kept cut. enters-run packets i c.args.self.now.group (sym cut ∙ c.in-None.is) kept.group
