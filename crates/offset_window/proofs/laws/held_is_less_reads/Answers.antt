use Rattle.offset_window.proofs.Offsets.{held_with-is}
use Rattle.offset_window.proofs.laws.held_is_less_reads.Goals as goal

pub returns : goal.returns
returns c = held_with-is
