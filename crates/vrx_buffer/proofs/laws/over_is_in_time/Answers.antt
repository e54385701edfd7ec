use Rattle.vrx_buffer.proofs.Instants.{over-in_time}
use Rattle.vrx_buffer.proofs.laws.over_is_in_time.Goals as goal

pub returns : goal.returns
returns c = over-in_time
