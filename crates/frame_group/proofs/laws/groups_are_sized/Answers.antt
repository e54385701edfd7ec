use Rattle.frame_group.proofs.Sized.{place-sized}
use Rattle.frame_group.proofs.laws.groups_are_sized.Goals as goal

pub returns : goal.returns
returns c = place-sized
