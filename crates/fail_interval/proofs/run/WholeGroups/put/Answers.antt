use Rattle.std.proofs.Common.{refl}
use Rattle.std.proofs.lemmas.Result.{IfOk-weaker}
use Rattle.run_meter.specs.Runs.{stamps_of}
use Rattle.fail_interval.proofs.Fit.{bounds-known}
use Rattle.fail_interval.proofs.Told.{fed-told}
use Rattle.fail_interval.proofs.run.WholeGroups.put.Goals as goal

pub feed-requires : goal.feed-requires
feed-requires g c = (bounds-known _ _ _ c.requires).in_time

pub returns-then-WANTS_LEVELS-clause-told : goal.returns-then-WANTS_LEVELS-clause-told
returns-then-WANTS_LEVELS-clause-told g c = λ _.
    IfOk-weaker c.feed.result _ _
    (λ _ feeds shift r p fed committed follows n told stood.
    fed-told g.M.RunMeter.stands c.args.self.now.params _ _ c.args.packet _ shift r fed committed p (stamps_of shift fed) feeds refl follows.fit
    (c.feed_level-level.ensures.level (stamps_of shift fed) follows) n told stood)
    c.feed.ensures
