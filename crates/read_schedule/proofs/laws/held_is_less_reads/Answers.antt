use Rattle.read_schedule.proofs.Held.{held_at-is}
use Rattle.read_schedule.proofs.laws.held_is_less_reads.Goals as goal

pub returns : goal.returns
returns c = held_at-is
