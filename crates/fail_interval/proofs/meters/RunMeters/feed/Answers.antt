use Rattle.std.proofs.Common.{arith}
use Rattle.fail_interval.proofs.Fit.{bounds-known}
use Rattle.fail_interval.proofs.Metering.{bucket-follows}
use Rattle.fail_interval.proofs.meters.RunMeters.feed.Goals as goal

pub feed-requires-clause-begun : goal.feed-requires-clause-begun
feed-requires-clause-begun c = (bounds-known _ _ _ c.requires).begun

pub feed-requires-clause-in_time : goal.feed-requires-clause-in_time
feed-requires-clause-in_time c = (bounds-known _ _ _ c.requires).in_time

pub feed-requires-clause-few : goal.feed-requires-clause-few
feed-requires-clause-few c = (bounds-known _ _ _ c.requires).few

pub pass-requires-clause-in_time : goal.pass-requires-clause-in_time
pass-requires-clause-in_time c = (bounds-known _ _ _ c.requires).in_time

pub tell-requires : goal.tell-requires
tell-requires c =
    let known = bounds-known _ _ _ c.requires in
    record { in_time = known.in_time; some = omega (arith, c.feed.ensures.seen); few = omega (arith, c.feed.ensures.seen, known.few) }

pub returns-then-holds-clause-stands : goal.returns-then-holds-clause-stands
returns-then-holds-clause-stands c = λ stamps follows.
    c.pass.ensures.takes c.args.params.now c.args.self.now.bucket stamps follows c.feed.ensures.origin
    (c.feed.ensures.stands stamps follows.stands.fed.bucket (bucket-follows c.args.params.now c.args.self.now stamps c.args.at follows))

pub returns-else-holds-clause-stands : goal.returns-else-holds-clause-stands
returns-else-holds-clause-stands c = λ stamps follows.
    c.tell.ensures.takes c.args.self.now.bucket stamps follows c.feed.ensures.origin
    (c.feed.ensures.stands stamps follows.stands.fed.bucket (bucket-follows c.args.params.now c.args.self.now stamps c.args.at follows))
