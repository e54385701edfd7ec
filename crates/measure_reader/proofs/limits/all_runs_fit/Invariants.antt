use Rattle.std.proofs.Common.{ℕ, ◌<◌}
use Rattle.std.specs.Prelude.{get_or}
use Rattle.flow_measure.specs.declared.numbers.MeasuredRun.{MeasuredRun}
use Rattle.flow_measure.specs.report.Told.{run_told}
use Rattle.measure_reader.specs.Fits.{FitsRun}
use Rattle.measure_reader.proofs.limits.all_runs_fit.Given as goal

abbrev pub invariant-loop-index : goal.invariant-loop-index
invariant-loop-index l = (k : ℕ) (d : MeasuredRun) → k < l.index → FitsRun (run_told (get_or l.runs k d))
