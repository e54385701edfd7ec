use Rattle.std.proofs.Common.{Ok, ap, ◌∙◌, refl}
use Rattle.timing_base.specs.Numbered.{numbered}
use Rattle.fail_interval.proofs.Expecting.{own-next}
use Rattle.fail_interval.proofs.JudgeTold.{expected-tells}
use Rattle.fail_interval.proofs.Judges.{as-state, judge-expected, judge-more, judge-tells}
use Rattle.fail_interval.proofs.Judging.{flow-known, known-expected}
use Rattle.fail_interval.proofs.judge.FlowJudge.feed_judged.Goals as goal

pub feed_judged-requires : goal.feed_judged-requires
feed_judged-requires g c = λ flow e. flow-known _ _ _ flow e c.args.self.now.known c.requires.few c.requires.stamp

pub invariant_of-self : goal.invariant_of-self
invariant_of-self g c =
    let went = c.feed_judged.ensures.goes_on (c.in-Ok-true.is ∙ ap Ok c.in-Ok-true.field-0-test) in
    record { known = known-expected c.args.self.now.fed c.args.at _ _ went c.args.self.now.known c.requires.few c.requires.stamp }

pub returns-in-Ok-true-clause-took : goal.returns-in-Ok-true-clause-took
returns-in-Ok-true-clause-took g c = λ _.
    let went = c.feed_judged.ensures.goes_on (c.in-Ok-true.is ∙ ap Ok c.in-Ok-true.field-0-test) in
    record {
      fed = refl;
      expects = λ media key options packets s. judge-expected media key options c.args.at c.args.self.now _ packets went c.requires.few c.requires.stamp s;
      stands = λ media key options packets rec s.
          judge-more media key options rec c.args.at c.args.self.now _ _ packets went c.requires.few c.requires.stamp s;
      going = λ spent. let was = went.is in cc;
      next = own-next c.args.at c.args.self.now.counting c.args.self.now.state _ went;
    }

pub returns-in-Ok-true-clause-tells : goal.returns-in-Ok-true-clause-tells
returns-in-Ok-true-clause-tells g c = λ _ wants past out media key options packets s t.
    let took = c.in-Ok-true.is ∙ ap Ok c.in-Ok-true.field-0-test in
    judge-tells g.M.RunMeter.stands g.M.RunMeter.tells past media key options c.args.rec c.args.at c.args.self.now _ packets out
    (c.feed_judged.ensures.goes_on took) c.requires.few c.requires.stamp s
    (expected-tells g.M.RunMeter.stands g.M.RunMeter.tells past media options.shift c.args.rec c.args.at c.args.self.now.fed c.args.self.now.state _
    (numbered options.seq16 packets) out
    (c.feed_judged.ensures.tells took wants) c.requires.few c.requires.stamp (as-state media key options c.args.self.now packets s) t)
