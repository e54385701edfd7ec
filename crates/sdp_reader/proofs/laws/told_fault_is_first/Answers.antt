use Rattle.sdp_reader.specs.Session.{faults}
use Rattle.sdp_reader.proofs.First.{least-among, least-before, least-none}
use Rattle.sdp_reader.proofs.laws.told_fault_is_first.Goals as goal

pub returns-clause-stands : goal.returns-clause-stands
returns-clause-stands c = λ ls f e. least-among (faults ls) f e

pub returns-clause-first : goal.returns-clause-first
returns-clause-first c = λ ls f g e s. least-before (faults ls) f g e s

pub returns-clause-none : goal.returns-clause-none
returns-clause-none c = λ ls g e s. least-none (faults ls) g e s
