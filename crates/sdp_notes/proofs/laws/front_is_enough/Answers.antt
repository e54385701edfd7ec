use Rattle.sdp_notes.proofs.Front.{described-take}
use Rattle.sdp_notes.proofs.laws.front_is_enough.Goals as goal

pub returns : goal.returns
returns c = described-take
