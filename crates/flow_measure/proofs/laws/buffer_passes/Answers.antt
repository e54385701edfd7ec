use Rattle.flow_measure.proofs.Passes.{buffer-passes}
use Rattle.flow_measure.proofs.laws.buffer_passes.Goals as goal

pub returns : goal.returns
returns c = buffer-passes
