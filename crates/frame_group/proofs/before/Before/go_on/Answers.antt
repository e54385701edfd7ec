use Rattle.frame_group.proofs.Expecting.{expected-next}
use Rattle.frame_group.proofs.before.Before.go_on.Goals as goal

pub returns-in-Some-clause-expects : goal.returns-in-Some-clause-expects
returns-in-Some-clause-expects c = λ pt. expected-next pt c.args.at c.args.rtp.number c.args.before.now c.in-Some.before c.in-Some.is
