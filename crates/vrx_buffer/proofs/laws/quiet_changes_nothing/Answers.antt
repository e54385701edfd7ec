use Rattle.vrx_buffer.proofs.Quiet.{known-none, known-stands}
use Rattle.vrx_buffer.proofs.laws.quiet_changes_nothing.Goals as goal

pub returns-clause-stands : goal.returns-clause-stands
returns-clause-stands c = known-stands

pub returns-clause-none : goal.returns-clause-none
returns-clause-none c = known-none
