use Rattle.timing_report.proofs.Lines.{runs_more}
use Rattle.timing_report.proofs.verdict.add_runs.Goals as goal

pub loop-index-preserved : goal.loop-index-preserved
loop-index-preserved c =
    runs_more c.args.media.now c.args.runs.now c.loop-index.index c.index-runs-index.result _ _ _ c.loop-index-test.true c.index-runs-index.is
    c.in_ok-add_run.ensures c.loop-index.invariant
