use Rattle.std.proofs.Common.{Err}
use Rattle.fail_interval.proofs.Feeding.{unread-ends}
use Rattle.fail_interval.proofs.JudgeTold.{refuses-taken}
use Rattle.fail_interval.proofs.Judges.{takes-more, tells-more, unread-goes}
use Rattle.fail_interval.proofs.Judging.{refuses}
use Rattle.fail_interval.proofs.judge.FlowJudge.feed_unread.Goals as goal

pub invariant_of-self : goal.invariant_of-self
invariant_of-self g c = record {
  known = (refuses _ c.args.self.now.fed c.args.rec c.args.at (Err c.args.fault)
      c.args.fault c.args.self.now.state _ c.refuse.ensures c.requires.few c.requires.stamp
      (λ flow packets rest h. unread-ends flow packets rest c.args.rec c.args.at c.args.fault h)).known c.args.self.now.known;
}

pub returns-clause-takes : goal.returns-clause-takes
returns-clause-takes g c =
    takes-more _ c.args.self.now c.args.self.now.counting _ _ _ (record { rec = c.args.rec; at = c.args.at; rtp = Err c.args.fault })
    (unread-goes c.args.self.now c.args.rec c.args.at c.args.fault)
    (refuses _ c.args.self.now.fed c.args.rec c.args.at (Err c.args.fault) c.args.fault c.args.self.now.state _ c.refuse.ensures c.requires.few c.requires.stamp
    (λ flow packets rest h. unread-ends flow packets rest c.args.rec c.args.at c.args.fault h)) c.requires.stamp

pub returns-clause-tells : goal.returns-clause-tells
returns-clause-tells g c = λ out.
    tells-more g.M.RunMeter.stands g.M.RunMeter.tells _ c.args.self.now c.args.self.now.counting _ _
    (record { rec = c.args.rec; at = c.args.at; rtp = Err c.args.fault }) out out
    (unread-goes c.args.self.now c.args.rec c.args.at c.args.fault)
    (refuses _ c.args.self.now.fed c.args.rec c.args.at (Err c.args.fault) c.args.fault c.args.self.now.state _ c.refuse.ensures c.requires.few c.requires.stamp
    (λ flow packets rest h. unread-ends flow packets rest c.args.rec c.args.at c.args.fault h))
    (refuses-taken g.M.RunMeter.stands g.M.RunMeter.tells c.args.rec c.args.fault c.args.self.now.fed c.args.self.now.state _ _ out _ c.refuse.ensures
    (λ flow packets rest h. unread-ends flow packets rest c.args.rec c.args.at c.args.fault h) c.requires.few c.requires.stamp)
