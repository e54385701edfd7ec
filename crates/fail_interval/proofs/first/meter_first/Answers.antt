use Rattle.std.proofs.Common.{◌∙◌, ap, arith, length, subst, sym, take}
use Rattle.fail_interval.specs.Meters.{StandsFor}
use Rattle.fail_interval.specs.SoFar.{AreStamps}
use Rattle.fail_interval.proofs.Metering.{all-stands, next-follows, next-stands}
use Rattle.fail_interval.proofs.Told.{first-all, first-next, kept-size}
use Rattle.fail_interval.proofs.first.meter_first.Goals as goal
use Rattle.fail_interval.proofs.first.meter_first.Goals.{in-Some+in_ok-feed, in_default}

pub feed_level-level-requires : goal.feed_level-level-requires
feed_level-level-requires g c =
    let fit = subst AreStamps (sym c.as_slice-stamps.ensures.value) c.requires.fit in
    ∣ (_, next-follows _ _ _ _ fit c.loop-number-test.true c.loop-number.invariant.origin c.loop-number.invariant.stands) ∣₁

pub loop-number-preserved : goal.loop-number-preserved
loop-number-preserved g c =
    let stamps = c.as_slice-stamps.result.now in
    let i = c.loop-number.number in
    let few = c.loop-number-test.true in
    let was = c.loop-number.invariant in
    let stamps_are = c.as_slice-stamps.ensures.value in
    let keeps_are = c.deref.ensures.value in
    let fit = subst AreStamps (sym stamps_are) c.requires.fit in
    let follows = next-follows _ _ _ _ fit few was.origin was.stands in
    record {
      origin = c.feed_level-level.ensures.origin ∙ was.origin;
      stands = next-stands _ _ _ _ few (c.feed_level-level.ensures.stands _ follows);
      told = elim c.match-get.branch [
        | in-Some+in_ok-feed w ↦ λ shift r packets n kept_so stood.
            subst (λ meter. g.M.RunMeter.stands meter _ _ _ _ _) (sym w.meter-is)
            (first-next g.M.RunMeter.stands c.args.params.now _ _ c.args.first.now stamps _ i w.in-Some.kept.now _ shift r packets stamps_are keeps_are fit few
            w.in-Some.ensures.lookup.1 (c.feed_level-level.ensures.level (take i stamps) follows) w.in_ok-feed.ensures n kept_so
            (was.told shift r packets n kept_so stood))
        | in_default w ↦ λ shift r packets n kept_so stood.
            let size = kept-size shift c.args.first.now packets kept_so in
            absurd (omega (arith, w.in_default.ensures.lookup, ap length keeps_are, ap length stamps_are, size, few))
      ];
    }

pub returns-clause-stands : goal.returns-clause-stands
returns-clause-stands g c =
    subst (StandsFor c.args.params.now c.loop-number.meters) c.as_slice-stamps.ensures.value
    (all-stands _ _ _ _ c.loop-number.auto.number-end c.loop-number-test.false c.loop-number.invariant.stands)

pub returns-clause-told : goal.returns-clause-told
returns-clause-told g c = λ shift r packets n kept_so stood.
    first-all g.M.RunMeter.stands _ _ c.args.first.now _ _ shift r packets c.as_slice-stamps.ensures.value c.loop-number-test.false kept_so
    (c.loop-number.invariant.told shift r packets n kept_so stood)
