use Rattle.timing_base.proofs.FirstFaults.{first_fault-is, no_fault-at}
use Rattle.std.proofs.Common.{length}
use Rattle.timing_base.proofs.laws.first_fault_is_least.Goals as goal

pub returns-clause-least : goal.returns-clause-least
returns-clause-least c = first_fault-is

pub returns-clause-none : goal.returns-clause-none
returns-clause-none c = λ packets pt k none within. no_fault-at packets pt (length packets) k none within
