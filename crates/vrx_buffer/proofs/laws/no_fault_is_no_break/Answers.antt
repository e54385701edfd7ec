use Rattle.vrx_buffer.proofs.Instants.{first-none, none-first}
use Rattle.vrx_buffer.proofs.laws.no_fault_is_no_break.Goals as goal

pub returns-clause-fault : goal.returns-clause-fault
returns-clause-fault c = first-none

pub returns-clause-breaks : goal.returns-clause-breaks
returns-clause-breaks c = none-first
