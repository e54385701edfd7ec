use Rattle.std.proofs.Common.{arith, refl, ◌∙◌}
use Rattle.fail_interval.proofs.Going.{first-known, head-known}
use Rattle.fail_interval.proofs.RunTold.{first-tells}
use Rattle.fail_interval.proofs.run.RunJudge.feed_early.Goals as goal

pub begin_groups-requires : goal.begin_groups-requires
begin_groups-requires g c =
    first-known _ _ _ c.in-First.group _ c.args.packet.at _ c.in-First.is c.in_ok-push-in-First.ensures.stamps c.if-marker.true c.requires.next

pub overflow_add-packets : goal.overflow_add-packets
overflow_add-packets g c = omega (arith, head-known _ _ _ _ _ c.in-Head.is c.requires.next)

pub returns-in_ok-begin_groups-in-First-clause-tells : goal.returns-in_ok-begin_groups-in-First-clause-tells
returns-in_ok-begin_groups-in-First-clause-tells g c = λ wants past shift first p over so_far fed committed h is heads stamps whole was.
    let pushed = c.in_ok-push-in-First.ensures in
    first-tells g.M.RunMeter.stands g.M.RunMeter.tells past c.args.media.now c.args.self.now c.in-First.head c.in-First.group c.push.new.self _
    c.begin_groups.new.self c.args.out.now c.begin_groups.new.out c.args.run.now c.args.packet c.args.marker shift first p over so_far fed committed
    c.in-First.is c.if-marker.true refl pushed.stamps (pushed.kept (c.WANTS_LEVELS.ensures ∙ wants)) c.in_ok-begin_groups-in-First.ensures.tells h is heads was
