use Rattle.std.proofs.Common.{arith}
use Rattle.std.proofs.Math.Logic.{∥∥₁_map}
use Rattle.fail_interval.proofs.Whole.{can_follow, marked_then, room-known, unmarked_as}
use Rattle.fail_interval.proofs.Told.{marked-told, unmarked-told}
use Rattle.fail_interval.proofs.run.WholeGroups.feed.Goals as goal

pub put-requires : goal.put-requires
put-requires g c = ∥∥₁_map c.requires (λ (m, so_far, h). (so_far.stamps, can_follow _ _ _ _ _ h))

pub end_group-requires : goal.end_group-requires
end_group-requires g c = omega (arith, c.put.ensures.groups, (room-known _ _ _ c.requires).groups)

pub returns-in_ok-end_group-clause-whole : goal.returns-in_ok-end_group-clause-whole
returns-in_ok-end_group-clause-whole g c = λ m so_far h.
    marked_then m c.args.self.now c.put.new.self c.end_group.new.self so_far c.args.packet.at c.args.marker
    c.put.ensures.params c.put.ensures.head c.put.ensures.groups c.put.ensures.meters
    c.end_group.ensures.params c.end_group.ensures.head c.end_group.ensures.groups c.end_group.ensures.meters c.end_group.ensures.judged c.if-marker.true h

pub returns-else-marker-clause-whole : goal.returns-else-marker-clause-whole
returns-else-marker-clause-whole g c = λ m so_far h.
    unmarked_as m c.args.self.now c.put.new.self so_far c.args.packet.at c.args.marker c.put.ensures.params c.put.ensures.head c.put.ensures.groups
    c.put.ensures.judged c.put.ensures.meters c.if-marker.false h

pub returns-in_ok-end_group-clause-told : goal.returns-in_ok-end_group-clause-told
returns-in_ok-end_group-clause-told g c = λ wants past m so_far shift number first p over fed committed h stamps told whole stood tells.
    let ends = c.in_ok-end_group.ensures in
    let now = marked-told g.M.RunMeter.stands g.M.RunMeter.tells past m c.args.self.now c.put.new.self c.end_group.new.self c.args.out.now
    c.end_group.new.out so_far
    c.args.packet c.args.marker shift number first p over fed committed c.if-marker.true c.put.ensures.params c.end_group.ensures.params
    (c.in_ok-put.ensures.told wants) (record { told_so = ends.told; tells_so = ends.tells }) h stamps told whole
    (record { stands_so = stood; tells_so = tells }) in
    (now.stands_so, now.tells_so)

pub returns-else-marker-clause-told : goal.returns-else-marker-clause-told
returns-else-marker-clause-told g c = λ wants past m so_far shift number first p over fed committed h stamps told whole stood tells.
    let now = unmarked-told g.M.RunMeter.stands g.M.RunMeter.tells past m c.args.self.now c.put.new.self c.args.out.now so_far
    c.args.packet c.args.marker shift number first p over fed committed c.if-marker.false c.put.ensures.params
    (c.in_ok-put.ensures.told wants) h stamps told (record { stands_so = stood; tells_so = tells }) in
    (now.stands_so, now.tells_so)
