use Rattle.measure_reader.proofs.Plain.{plain_fits}
use Rattle.measure_reader.proofs.laws.plain_flow_fits.Goals as goal

pub returns : goal.returns
returns c = plain_fits
