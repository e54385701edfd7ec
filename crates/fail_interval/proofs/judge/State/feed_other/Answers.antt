use Rattle.std.proofs.Common.{Ok, ap, ◌∙◌, refl}
use Rattle.fail_interval.proofs.JudgeTold.{ended-taken, refused-taken, went-taken}
use Rattle.fail_interval.proofs.Judging.{going-more, refused-before, refused-now}
use Rattle.fail_interval.proofs.judge.State.feed_other.Goals as goal

pub feed-step-requires : goal.feed-step-requires
feed-step-requires g c = c.requires.known _ c.in-Going.is

pub returns-in-Refused-clause-takes : goal.returns-in-Refused-clause-takes
returns-in-Refused-clause-takes g c = λ fed few.
    refused-before _ fed c.args.rec c.args.at _ (Ok c.args.rtp) _ c.args.self.now _ c.in-Refused.is (refl, c.in-Refused.is) c.requires.stamp

pub returns-in-None-clause-takes : goal.returns-in-None-clause-takes
returns-in-None-clause-takes g c = λ fed few.
    going-more _ fed c.args.rec c.args.at (Ok c.args.rtp) c.args.self.now _ _ c.in-Going.is few c.requires.stamp
    c.feed-step.ensures.media c.feed-step.ensures.shift (c.feed-step.ensures.goes_on (c.in-Ok.is ∙ ap Ok c.in-None.is))

pub returns-in-Some-clause-takes : goal.returns-in-Some-clause-takes
returns-in-Some-clause-takes g c = λ fed few.
    refused-now _ fed c.args.rec c.args.at (Ok c.args.rtp) _ c.args.self.now _ _ c.in-Going.is (c.refuse.ensures.going _ refl) few c.requires.stamp
    (c.feed-step.ensures.ends _ (c.in-Ok.is ∙ ap Ok c.in-Some.is))

pub returns-in-Refused-clause-tells : goal.returns-in-Refused-clause-tells
returns-in-Refused-clause-tells g c = λ _ fed few.
    ended-taken g.M.RunMeter.stands g.M.RunMeter.tells _ _ fed c.args.self.now _ _ c.args.out.now _ c.in-Refused.is c.in-Refused.is

pub returns-in-None-clause-tells : goal.returns-in-None-clause-tells
returns-in-None-clause-tells g c = λ wants fed few.
    let took = c.in-Ok.is ∙ ap Ok c.in-None.is in
    went-taken g.M.RunMeter.stands g.M.RunMeter.tells fed c.args.self.now _ _ c.args.out.now c.feed-step.new.out _ (record {
      flow = c.in-Going.flow;
      later = c.feed-step.new.self;
      is = c.in-Going.is;
      becomes = refl;
      media = c.feed-step.ensures.media;
      shift = c.feed-step.ensures.shift;
      goes = c.feed-step.ensures.tells took wants;
    }) few c.requires.stamp

pub returns-in-Some-clause-tells : goal.returns-in-Some-clause-tells
returns-in-Some-clause-tells g c = λ _ fed few.
    let refused = c.in-Ok.is ∙ ap Ok c.in-Some.is in
    refused-taken g.M.RunMeter.stands g.M.RunMeter.tells c.args.rec c.in-Some.fault fed c.args.self.now c.refuse.new.self c.in-Going.flow
    (record { rec = c.args.rec; at = c.args.at; rtp = Ok c.args.rtp }) c.args.out.now c.feed-step.new.out _ c.in-Going.is
    (c.refuse.ensures.going c.feed-step.new.self refl).1 (c.feed-step.ensures.out _ refused) (c.feed-step.ensures.ends _ refused) few c.requires.stamp
