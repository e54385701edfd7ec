use Rattle.fail_interval.proofs.JudgeTold.{carried-tells}
use Rattle.fail_interval.proofs.laws.output_may_be_taken_out.Goals as goal

pub returns : goal.returns
returns g c = carried-tells g.M.RunMeter.stands g.M.RunMeter.tells
