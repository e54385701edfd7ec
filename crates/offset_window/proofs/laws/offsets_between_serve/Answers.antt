use Rattle.offset_window.proofs.Offsets.{from-lower, to-upper}
use Rattle.offset_window.proofs.laws.offsets_between_serve.Goals as goal

pub returns-clause-lower : goal.returns-clause-lower
returns-clause-lower c = from-lower

pub returns-clause-upper : goal.returns-clause-upper
returns-clause-upper c = to-upper
