use Rattle.offset_window.proofs.Unique.{window-once, window-some}
use Rattle.offset_window.proofs.laws.one_window.Goals as goal

pub returns-clause-some : goal.returns-clause-some
returns-clause-some c = window-some

pub returns-clause-once : goal.returns-clause-once
returns-clause-once c = window-once
