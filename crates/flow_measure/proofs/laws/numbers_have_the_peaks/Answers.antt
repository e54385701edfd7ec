use Rattle.std.proofs.Common.{true, false}
use Rattle.flow_measure.proofs.Passes.{bucket-peak, buffer-peak}
use Rattle.flow_measure.proofs.laws.numbers_have_the_peaks.Goals as goal

pub returns-clause-bucket : goal.returns-clause-bucket
returns-clause-bucket c = λ m n groups stamps records timestamps named x p is peak. bucket-peak m n stamps x.bucket p is.bucket peak

pub returns-clause-gapped : goal.returns-clause-gapped
returns-clause-gapped c = λ m n groups stamps records timestamps named x p is peak.
    buffer-peak m n stamps true is.gapped_at x.gapped.occupancy p is.gapped.are is.gapped.summary peak

pub returns-clause-linear : goal.returns-clause-linear
returns-clause-linear c = λ m n groups stamps records timestamps named x p is peak.
    buffer-peak m n stamps false is.linear_at x.linear.occupancy p is.linear.are is.linear.summary peak
