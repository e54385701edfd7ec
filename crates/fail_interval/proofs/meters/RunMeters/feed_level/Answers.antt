use Rattle.std.proofs.Common.{◌∷◌, [], arith, length-append, true, false}
use Rattle.fail_interval.proofs.Fit.{bounds-known}
use Rattle.fail_interval.proofs.Metering.{asked-again, count-there, held-there}
use Rattle.fail_interval.proofs.meters.RunMeters.feed_level.Goals as goal

pub advance-gapped-requires : goal.advance-gapped-requires
advance-gapped-requires c = (bounds-known _ _ _ c.requires).in_time

pub advance-linear-requires : goal.advance-linear-requires
advance-linear-requires c = (bounds-known _ _ _ c.requires).in_time

pub after-requires-clause-packet : goal.after-requires-clause-packet
after-requires-clause-packet c = (bounds-known _ _ _ c.requires).few

pub after-requires-2-clause-packet : goal.after-requires-2-clause-packet
after-requires-2-clause-packet c = (bounds-known _ _ _ c.requires).few

pub returns-clause-level : goal.returns-clause-level
returns-clause-level c = λ stamps follows.
    let p = c.args.params.now in
    let m = c.feed.new.self in
    let at = c.args.at in
    let s = c.feed.ensures.stands stamps follows in
    let first = s.fed.first (omega (arith, length-append stamps (at ∷ []))) in
    record {
      bucket = count-there p m stamps at s;
      gapped = held-there p m c.args.self.now.bucket.seen stamps at true m.gapped c.advance-gapped.new.self c.advance-gapped.result c.after.result
          (c.advance-gapped.ensures.due, c.advance-gapped.ensures.stands) s.fed.gapped first follows.stands.fed.bucket.seen c.after.ensures.occupancy
          c.after.ensures.late;
      linear = held-there p m c.args.self.now.bucket.seen stamps at false m.linear c.advance-linear.new.self c.advance-linear.result c.after-2.result
          (c.advance-linear.ensures.due, c.advance-linear.ensures.stands) s.fed.linear first follows.stands.fed.bucket.seen c.after-2.ensures.occupancy
          c.after-2.ensures.late;
    }

pub returns-clause-stands : goal.returns-clause-stands
returns-clause-stands c = λ stamps follows.
    asked-again c.args.params.now c.feed.new.self _ _ c.advance-gapped.result c.advance-linear.result stamps c.args.at
    (c.advance-gapped.ensures.due, c.advance-gapped.ensures.stands) (c.advance-linear.ensures.due, c.advance-linear.ensures.stands)
    (c.feed.ensures.stands stamps follows)
