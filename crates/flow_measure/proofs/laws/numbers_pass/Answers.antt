use Rattle.flow_measure.proofs.Measured.{bucket-by-bins, buffer-by-bins}
use Rattle.flow_measure.proofs.laws.numbers_pass.Goals as goal

pub returns-clause-bucket : goal.returns-clause-bucket
returns-clause-bucket c = bucket-by-bins

pub returns-clause-buffer : goal.returns-clause-buffer
returns-clause-buffer c = buffer-by-bins
