use Rattle.std.proofs.Common.{false}
use Rattle.std.proofs.Math.Logic.{∥∥₁_map}
use Rattle.std.proofs.lemmas.Result.{IfOk-weaker}
use Rattle.fail_interval.proofs.Told.{put-told}
use Rattle.fail_interval.proofs.Whole.{can_follow, plain_as}
use Rattle.fail_interval.proofs.run.WholeGroups.feed_within.Goals as goal

pub put-requires : goal.put-requires
put-requires g c = ∥∥₁_map c.requires (λ (m, so_far, h). (so_far.stamps, can_follow _ _ _ _ _ h))

pub returns-clause-whole : goal.returns-clause-whole
returns-clause-whole g c = λ m so_far h.
    plain_as m c.args.self.now c.put.new.self so_far c.args.packet.at c.put.ensures.params c.put.ensures.head c.put.ensures.groups c.put.ensures.judged
    c.put.ensures.meters h

pub returns-clause-told : goal.returns-clause-told
returns-clause-told g c = λ wants.
    IfOk-weaker c.put.result _ _
    (λ _ put m so_far shift number first p fed committed h stamps told stood.
    put-told g.M.RunMeter.stands m c.args.self.now c.put.new.self so_far c.args.packet false shift number first p fed committed c.put.ensures.params put h
    stamps told
    stood)
    (c.put.ensures.told wants)
