use Rattle.measure_reader.proofs.Flows.{session_back}
use Rattle.measure_reader.proofs.laws.flows_are_read_back.Goals as goal

pub returns : goal.returns
returns c = session_back
