use Rattle.timing_base.specs.Numbered.{numbered}
use Rattle.fail_interval.proofs.judge.FlowJudge.refusal.Goals as goal

pub returns : goal.returns
returns g c = λ media key options packets h. c.refusal.ensures media options.shift (numbered options.seq16 packets) h.state
