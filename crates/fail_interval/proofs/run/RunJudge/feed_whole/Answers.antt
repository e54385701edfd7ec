use Rattle.std.proofs.Common.{false}
use Rattle.fail_interval.proofs.Going.{groups-fed, groups-known_of}
use Rattle.fail_interval.proofs.RunTold.{groups-tells, within-groups}
use Rattle.fail_interval.proofs.run.RunJudge.feed_whole.Goals as goal

pub feed_within-requires : goal.feed_within-requires
feed_within-requires g c = groups-known_of _ _ _ _ c.in-Groups.is c.requires.next

pub returns-in_ok-feed_within-clause-takes : goal.returns-in_ok-feed_within-clause-takes
returns-in_ok-feed_within-clause-takes g c = λ m so_far h.
    groups-fed m c.args.self.now c.in-Groups.groups c.feed_within.new.self so_far c.args.packet.at false c.in-Groups.is c.feed_within.ensures.whole h

pub returns-in_ok-feed_within-clause-tells : goal.returns-in_ok-feed_within-clause-tells
returns-in_ok-feed_within-clause-tells g c = λ wants m head out past shift first p over so_far fed committed h is heads stamps whole was.
    groups-tells g.M.RunMeter.stands g.M.RunMeter.tells past m c.args.self.now c.in-Groups.groups c.feed_within.new.self out out
    c.args.packet false shift head.run first p over so_far fed committed c.in-Groups.is
    (within-groups g.M.RunMeter.stands g.M.RunMeter.tells c.in-Groups.groups c.feed_within.new.self out c.args.packet c.feed_within.ensures.n
    (c.in_ok-feed_within.ensures.told wants)) h is stamps whole was
