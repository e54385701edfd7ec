use Rattle.std.proofs.Common.{◌<◌, refl, arith}
use Rattle.flow_worker.proofs.Dealt.{dealt-more}
use Rattle.flow_worker.proofs.routing.deal.Goals as goal

pub loop-number-init : goal.loop-number-init
loop-number-init c = (refl, λ m below. absurd (omega (arith, below)))

pub loop-number-preserved : goal.loop-number-preserved
loop-number-preserved c =
    let few : c.loop-number.number < 64 = omega (arith, c.loop-number-test.true, c.requires.few_media) in
    dealt-more c.args.file c.args.media c.args.lanes c.loop-number.number c.route.result c.loop-number.dealt few c.route.ensures.value c.loop-number.invariant

pub returns : goal.returns
returns c = (c.loop-number.invariant.0, λ m below. c.loop-number.invariant.1 m (omega (arith, below, c.loop-number-test.false)))
