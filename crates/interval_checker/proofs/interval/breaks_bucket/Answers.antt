use Rattle.std.proofs.Common.{◌≡◌, ◌<◌, arith}
use Rattle.sender_params.specs.Limits.{c_max_of}
use Rattle.interval_checker.proofs.Intervals.{eq-says}
use Rattle.interval_checker.proofs.interval.breaks_bucket.Goals as goal

pub returns : goal.returns
returns c = λ stamps within sampled.
    let limit : c.args.claim.now.proof.limit ≡ c_max_of c.args.params.now.media c.args.params.now.n c.args.claim.now.kind =
    omega (arith, c.if-claim-c_max.false, c.c_max.ensures) in
    let above : c.args.claim.now.proof.limit < c.args.claim.now.proof.count = omega arith in
    let says = eq-says _ _ _ _ c.from.ensures (c.load.ensures stamps within sampled) in
    (λ t. (limit, says.0 t, above), λ b. says.1 b.1)
