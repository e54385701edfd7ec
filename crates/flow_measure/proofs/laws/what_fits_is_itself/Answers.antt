use Rattle.flow_measure.proofs.Unique.{fits-each, fits-length}
use Rattle.flow_measure.proofs.laws.what_fits_is_itself.Goals as goal

pub returns-clause-length : goal.returns-clause-length
returns-clause-length c = fits-length

pub returns-clause-each : goal.returns-clause-each
returns-clause-each c = fits-each
