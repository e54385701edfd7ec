use Rattle.std.proofs.Common.{◌≡◌, ◌+◌, ◌-◌, ◌*◌, arith}
use Rattle.fraction128.proofs.Due.{leap-passed, next-leap}
use Rattle.fraction128.proofs.clock.Clock.leap.Goals as goal

pub returns-clause-next : goal.returns-clause-next
returns-clause-next c = λ origin count stands.
    let line = c.args.line.now in
    let clock = c.args.self.now in
    let more = c.divide-more.result in
    let up = c.round_up-ahead.result in
    let over : c.from.result * c.from-2.result ≡ (c.args.t - clock.due) * line.den = cc (c.from.ensures, c.from-2.ensures) in
    let lots : more.0 * line.num + more.1 ≡ (c.args.t - clock.due) * line.den + clock.slack =
    omega (arith, c.divide-more.ensures.whole, over, c.from-3.ensures) in
    next-leap line.num line.den origin count clock.due clock.slack c.args.t more.0 more.1 up.0 up.1 (omega (arith, line.some, line.slow)) c.requires.due lots
    c.divide-more.ensures.left c.round_up-ahead.ensures.whole c.round_up-ahead.ensures.slack stands

pub returns-clause-passed : goal.returns-clause-passed
returns-clause-passed c = λ origin count stands.
    let line = c.args.line.now in
    let clock = c.args.self.now in
    let more = c.divide-more.result in
    let over : c.from.result * c.from-2.result ≡ (c.args.t - clock.due) * line.den = cc (c.from.ensures, c.from-2.ensures) in
    let lots : more.0 * line.num + more.1 ≡ (c.args.t - clock.due) * line.den + clock.slack =
    omega (arith, c.divide-more.ensures.whole, over, c.from-3.ensures) in
    leap-passed line.num line.den origin count clock.due clock.slack c.args.t more.0 more.1 (omega (arith, line.some, line.slow)) c.requires.due lots stands
