use Rattle.std.proofs.Common.{arith}
use Rattle.fraction128.proofs.Due.{next-step}
use Rattle.fraction128.proofs.clock.Clock.pass.Goals as goal

pub returns : goal.returns
returns c = λ origin count stands.
    let line = c.args.line.now in
    let clock = c.args.self.now in
    let less = c.lessen-more.ensures in
    next-step line.num line.den origin count clock.due clock.slack line.whole line.part c.lessen-more.result.0 c.lessen-more.result.1
    (omega (arith, line.some, line.slow)) line.split less.whole (less.left stands.least) stands
