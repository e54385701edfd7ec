use Rattle.read_schedule.proofs.Rising.{read-rises}
use Rattle.read_schedule.proofs.laws.reads_rise.Goals as goal

pub returns : goal.returns
returns c = read-rises
