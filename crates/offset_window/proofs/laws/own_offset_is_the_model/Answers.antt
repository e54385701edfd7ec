use Rattle.offset_window.proofs.Offsets.{empty-own, over-own}
use Rattle.offset_window.proofs.laws.own_offset_is_the_model.Goals as goal

pub returns-clause-empty : goal.returns-clause-empty
returns-clause-empty c = empty-own

pub returns-clause-over : goal.returns-clause-over
returns-clause-over c = over-own
