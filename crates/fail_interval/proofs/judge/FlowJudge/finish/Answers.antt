use Rattle.std.proofs.Common.{◌≡◌, subst, sym, ◌∙◌}
use Rattle.timing_base.specs.Numbered.{numbered}
use Rattle.fail_interval.specs.Measured.{TellsOfAll}
use Rattle.fail_interval.specs.Row.{row}
use Rattle.fail_interval.proofs.JudgeTold.{end-refused, end-spent, end-tells}
use Rattle.fail_interval.proofs.Judges.{as-state, row-same, row-spent, row_by}
use Rattle.fail_interval.proofs.Judging.{stands-known, verdict-going, verdict-refused}
use Rattle.fail_interval.proofs.judge.FlowJudge.finish.Goals as goal
use Rattle.fail_interval.proofs.judge.FlowJudge.finish.Goals.{in-Going+in_ok-verdict-in-Going, in-Refused, in-Spent}

pub verdict-requires : goal.verdict-requires
verdict-requires g c = stands-known _ _ _ c.in-Going.is c.args.self.known

pub returns-clause-row : goal.returns-clause-row
returns-clause-row g c = λ media key options packets s.
    elim c.match-state.branch as (λ _. row_by c.args.self.key c.match-state.verdict ≡ row packets key media options) [
      | in-Going+in_ok-verdict-in-Going w ↦ row-same _ _ _ _ s.key_is
          (w.verdict-is
          ∙ verdict-going media options.shift c.args.self.state w.in-Going.flow _ (numbered options.seq16 packets) w.in-Going.is
          w.in_ok-verdict-in-Going.ensures.verdict s.state)
      | in-Refused w ↦ row-same _ _ _ _ s.key_is
          (w.verdict-is
          ∙ verdict-refused media options.shift w.in-Refused.rec w.in-Refused.fault c.args.self.state _ (numbered options.seq16 packets) w.in-Refused.is
          w.refusal-verdict.ensures s.state)
      | in-Spent w ↦ row-spent media key options c.args.self _ packets w.in-Spent.is s
    ]

pub returns-clause-tells : goal.returns-clause-tells
returns-clause-tells g c = λ past media key options packets s t.
    let all = numbered options.seq16 packets in
    let inner = as-state media key options c.args.self packets s in
    elim c.match-state.branch as (λ _. TellsOfAll g.M.RunMeter.tells past media options packets c.match-state.out) [
      | in-Going+in_ok-verdict-in-Going w ↦
          subst (TellsOfAll g.M.RunMeter.tells past media options packets) (sym w.out-is)
          (end-tells g.M.RunMeter.stands g.M.RunMeter.tells past media options.shift c.args.self.fed c.args.self.state w.in-Going.flow all c.args.out.now
          w.verdict.new.out w.in-Going.is w.in_ok-verdict-in-Going.ensures.tells inner t)
      | in-Refused w ↦
          subst (TellsOfAll g.M.RunMeter.tells past media options packets) (sym w.out-is)
          (end-refused g.M.RunMeter.stands g.M.RunMeter.tells past media options.shift w.in-Refused.rec w.in-Refused.fault c.args.self.fed c.args.self.state all
          c.args.out.now w.in-Refused.is inner t)
      | in-Spent w ↦
          subst (TellsOfAll g.M.RunMeter.tells past media options packets) (sym w.out-is)
          (end-spent g.M.RunMeter.tells past media options.shift c.args.self.fed c.args.self.state all c.args.out.now w.in-Spent.is inner)
    ]
