use Rattle.interval_checker.proofs.Faults.{comes-some}
use Rattle.interval_checker.proofs.walk.Walk.is_cut.Goals as goal

pub returns-in-Some-clause-is : goal.returns-in-Some-clause-is
returns-in-Some-clause-is c = λ pt shift packets i at k read.
    c.is_cut.ensures packets i at (comes-some packets i c.args.self.now.before c.in-Some.before c.in-Some.is k.before) read
