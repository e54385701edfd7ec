use Rattle.interval_checker.proofs.Faults.{comes-some}
use Rattle.interval_checker.proofs.Walking.{after-later}
use Rattle.interval_checker.proofs.walk.Walk.next_before.Goals as goal

pub returns-in-Some-clause-after : goal.returns-in-Some-clause-after
returns-in-Some-clause-after c = λ pt shift packets i places k read.
    after-later packets i c.args.at c.args.rtp c.in-Some.before (comes-some packets i c.args.self.now.before c.in-Some.before c.in-Some.is k.before) read
