use Rattle.std.proofs.lemmas.Result.{IfOk-weaker}
use Rattle.fail_interval.proofs.Going.{groups-fed, groups-known}
use Rattle.fail_interval.proofs.RunTold.{groups-tells}
use Rattle.fail_interval.proofs.run.RunJudge.feed.Goals as goal

pub feed-requires : goal.feed-requires
feed-requires g c = groups-known _ _ _ _ _ c.in-Groups.is c.requires

pub returns-in-Groups-clause-takes : goal.returns-in-Groups-clause-takes
returns-in-Groups-clause-takes g c = λ so_far h.
    IfOk-weaker c.feed.result _ _
    (λ _ fed.
    groups-fed c.args.media.now c.args.self.now c.in-Groups.groups c.feed.new.self so_far c.args.packet.at c.args.marker c.in-Groups.is fed h)
    c.feed.ensures.whole

pub returns-in-Groups-clause-tells : goal.returns-in-Groups-clause-tells
returns-in-Groups-clause-tells g c = λ wants past shift first p over so_far fed committed h is heads stamps whole was.
    IfOk-weaker c.feed.result _ _
    (λ _ calls.
    groups-tells g.M.RunMeter.stands g.M.RunMeter.tells past c.args.media.now c.args.self.now c.in-Groups.groups c.feed.new.self c.args.out.now c.feed.new.out
    c.args.packet c.args.marker shift c.args.run.now.run first p over so_far fed committed c.in-Groups.is calls h is stamps whole was)
    (c.feed.ensures.told wants)
