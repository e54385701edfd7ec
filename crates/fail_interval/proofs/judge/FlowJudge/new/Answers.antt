use Rattle.std.proofs.Common.{ap, ◌∙◌}
use Rattle.timing_base.specs.Shifts.{FlowOptions}
use Rattle.fail_interval.proofs.Judges.{stands-none}
use Rattle.fail_interval.proofs.judge.FlowJudge.new.Goals as goal

pub returns-clause-stands : goal.returns-clause-stands
returns-clause-stands g c =
    stands-none c.args.media.now c.args.key c.args.options c.new.result c.new-2.result _
    (c.new.ensures.seq16 ∙ ap (λ (o : FlowOptions). o.seq16) c.options.view_is) c.new.ensures.raise c.new-2.ensures.media
    (c.new-2.ensures.shift ∙ ap (λ (o : FlowOptions). o.shift) c.options.view_is) c.new-2.ensures.stands
