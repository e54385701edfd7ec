use Rattle.std.proofs.Common.{arith, subst}
use Rattle.flow_measure.specs.report.Told.{run_told}
use Rattle.measure_reader.specs.Fits.{FitsRun}
use Rattle.measure_reader.proofs.Options.{all_before, all_mapped}
use Rattle.measure_reader.proofs.limits.all_runs_fit.Goals as goal

pub loop-index-preserved : goal.loop-index-preserved
loop-index-preserved c = λ k d l.
    all_before (λ r. FitsRun (run_told r)) c.args.runs.now c.loop-index.index c.index-runs-index.result c.loop-index-test.true
    c.loop-index.invariant (subst (λ r. FitsRun (run_told r)) c.index-runs-index.is c.runs_fit.ensures) k d l

pub returns : goal.returns
returns c = all_mapped run_told FitsRun c.args.runs.now
    (λ k d l. c.loop-index.invariant k d (omega (arith, l, c.loop-index-test.false, c.loop-index.auto.index-end)))
