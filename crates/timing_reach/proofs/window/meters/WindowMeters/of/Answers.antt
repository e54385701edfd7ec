use Rattle.std.proofs.Common.{arith}
use Rattle.timing_reach.proofs.WindowGauges.{fed-next}
use Rattle.timing_reach.proofs.window.meters.WindowMeters.of.Goals as goal

pub loop-at-preserved : goal.loop-at-preserved
loop-at-preserved c = record {
  seen = omega (arith, c.feed.ensures.seen, c.loop-at.invariant.seen);
  fed = fed-next _ _ _ _ _ c.loop-at-test.true (c.feed.ensures.stands _ _ c.loop-at.invariant.fed);
}
