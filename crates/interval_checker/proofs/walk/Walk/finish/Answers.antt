use Rattle.std.proofs.Common.{◌≢◌, arith}
use Rattle.interval_checker.proofs.Outcomes.{finish-absent, finish-says}
use Rattle.interval_checker.proofs.walk.Walk.finish.Goals as goal

pub returns-then-self-eq0 : goal.returns-then-self-eq0
returns-then-self-eq0 c = λ packets s asked. finish-absent c.args.claim.now packets c.args.self.now s c.if-self-eq0.true

pub returns : goal.returns
returns c = λ packets s asked.
    let some : c.args.self.now.fed ≢ 0 = omega (arith, c.if-self-eq0.false) in
    finish-says c.args.claim.now packets c.args.self.now c.answer_here.result s some
    (λ all i places k. c.answer_here.ensures c.args.claim.now.media.pt all i places k asked)
