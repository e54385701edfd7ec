use Rattle.std.proofs.Common.{refl}
use Rattle.interval_checker.proofs.Outcomes.{ends-none, ends-one, ends-some}
use Rattle.interval_checker.proofs.walk.Walk.ending_here.Goals as goal

pub returns-in-None : goal.returns-in-None
returns-in-None c = λ pt shift packets i places k.
    ends-none pt shift packets i places c.args.self.now _ k c.in-None.is c.saturating_sub.ensures

pub returns-in-None-size : goal.returns-in-None-size
returns-in-None-size c = λ pt shift packets i places k.
    ends-one pt shift packets i places c.args.self.now c.in-Some.marks _ k c.in-Some.is c.in-None-size.is c.saturating_sub-in-None-size.ensures

pub returns-in-Some-size : goal.returns-in-Some-size
returns-in-Some-size c = λ pt shift packets i places k.
    ends-some pt shift packets i places c.args.self.now c.in-Some.marks c.in-Some-size.size _ k c.in-Some.is c.in-Some-size.is refl refl
