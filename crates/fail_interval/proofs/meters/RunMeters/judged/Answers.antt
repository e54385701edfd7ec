use Rattle.fail_interval.proofs.Metering.{says}
use Rattle.fail_interval.proofs.meters.RunMeters.judged.Goals as goal

pub returns : goal.returns
returns c = λ stamps s. says c.args.params.now c.args.self.now stamps c.args.frames c.args.head s
