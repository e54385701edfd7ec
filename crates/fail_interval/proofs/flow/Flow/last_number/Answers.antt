use Rattle.fail_interval.proofs.Rows.{no_fault}
use Rattle.fail_interval.proofs.flow.Flow.last_number.Goals as goal

pub returns : goal.returns
returns g c = λ packets s. c.last_number.ensures _ packets s.grouper (no_fault c.args.self.now packets s)
