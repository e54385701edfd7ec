use Rattle.fail_interval.proofs.Judges.{judge-so_far}
use Rattle.fail_interval.proofs.laws.output_tells_so_far.Goals as goal

pub returns : goal.returns
returns g c = judge-so_far g.M.RunMeter.stands g.M.RunMeter.tells
