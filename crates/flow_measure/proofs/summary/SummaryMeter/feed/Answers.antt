use Rattle.std.proofs.Common.{refl, arith}
use Rattle.std.proofs.lemmas.Int.{clamps, ints}
use Rattle.flow_measure.proofs.Summarized.{IsSummary-more}
use Rattle.flow_measure.proofs.summary.SummaryMeter.feed.Goals as goal

pub returns-clause-stands : goal.returns-clause-stands
returns-clause-stands c = λ numbers h e some.
    let s = c.args.self.now in
    let fits = c.ranges.number in
    let least = c.lessen.ensures in
    let greatest = c.raise.ensures in
    IsSummary-more numbers s.seen s.so_far _ (h (omega arith))
    (omega (arith, ints, clamps, least, e))
    (omega (arith, ints, clamps, greatest, e))
    (omega (arith, ints, e))
    refl
    (omega (arith, ints, e))
