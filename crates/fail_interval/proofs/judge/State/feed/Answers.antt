use Rattle.std.proofs.Common.{Ok, ap, subst, ◌∙◌}
use Rattle.timing_base.specs.declared.packet.FlowPacket.{FlowPacket}
use Rattle.fail_interval.specs.Goings.{StateTakes}
use Rattle.fail_interval.specs.Measured.{StateTellsTaken}
use Rattle.fail_interval.proofs.JudgeTold.{went-taken}
use Rattle.fail_interval.proofs.Judging.{went-more}
use Rattle.fail_interval.proofs.judge.State.feed.Goals as goal

pub returns-in-Ok-true-clause-takes : goal.returns-in-Ok-true-clause-takes
returns-in-Ok-true-clause-takes g c = λ fed few.
    went-more _ fed c.args.rec c.args.at c.args.rtp c.args.self.now _ (c.feed_on.ensures.goes_on (c.in-Ok-true.is ∙ ap Ok c.in-Ok-true.field-0-test)) few
    c.requires.stamp

pub returns-in-Ok-true-clause-tells : goal.returns-in-Ok-true-clause-tells
returns-in-Ok-true-clause-tells g c = λ wants fed few.
    went-taken g.M.RunMeter.stands g.M.RunMeter.tells fed c.args.self.now _ (record { rec = c.args.rec; at = c.args.at; rtp = Ok c.args.rtp })
    c.args.out.now c.feed_on.new.out _ (c.feed_on.ensures.tells (c.in-Ok-true.is ∙ ap Ok c.in-Ok-true.field-0-test) wants) few c.requires.stamp

pub returns-clause-takes : goal.returns-clause-takes
returns-clause-takes g c = λ fed few.
    let not = c.in-Ok-false.is ∙ ap Ok c.in-Ok-false.field-0-test in
    subst (λ s. StateTakes fed s c.feed_other.new.self (record { rec = c.args.rec; at = c.args.at; rtp = Ok c.args.rtp }) c.feed_other.result)
    (c.feed_on.ensures.other not) (c.feed_other.ensures.takes fed few)

pub returns-clause-tells : goal.returns-clause-tells
returns-clause-tells g c = λ wants fed few.
    let not = c.in-Ok-false.is ∙ ap Ok c.in-Ok-false.field-0-test in
    let next : FlowPacket = record { rec = c.args.rec; at = c.args.at; rtp = Ok c.args.rtp } in
    subst (λ s. StateTellsTaken g.M.RunMeter.stands g.M.RunMeter.tells fed s c.feed_other.new.self c.args.out.now c.feed_other.new.out next c.feed_other.result)
    (c.feed_on.ensures.other not)
    (subst (λ o. StateTellsTaken g.M.RunMeter.stands g.M.RunMeter.tells fed c.feed_on.new.self c.feed_other.new.self o c.feed_other.new.out next
    c.feed_other.result) (c.feed_on.ensures.out not) (c.feed_other.ensures.tells wants fed few))
