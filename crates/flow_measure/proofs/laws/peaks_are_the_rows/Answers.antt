use Rattle.flow_measure.proofs.Passes.{bucket-peak, buffer-peak}
use Rattle.flow_measure.proofs.laws.peaks_are_the_rows.Goals as goal

pub returns-clause-bucket : goal.returns-clause-bucket
returns-clause-bucket c = bucket-peak

pub returns-clause-buffer : goal.returns-clause-buffer
returns-clause-buffer c = buffer-peak
