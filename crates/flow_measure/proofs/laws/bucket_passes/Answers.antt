use Rattle.flow_measure.proofs.Passes.{bucket-passes}
use Rattle.flow_measure.proofs.laws.bucket_passes.Goals as goal

pub returns : goal.returns
returns c = bucket-passes
