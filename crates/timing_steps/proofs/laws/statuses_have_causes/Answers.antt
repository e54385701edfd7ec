use Rattle.timing_steps.proofs.Endings.{answered-is, read-is, write-is}
use Rattle.timing_steps.proofs.laws.statuses_have_causes.Goals as goal

pub returns-clause-read : goal.returns-clause-read
returns-clause-read g = read-is

pub returns-clause-write : goal.returns-clause-write
returns-clause-write g = write-is

pub returns-clause-answered : goal.returns-clause-answered
returns-clause-answered g = answered-is
