use Rattle.std.proofs.Common.{◌≡◌, ◌≤◌, ◌+◌, not, drop}
use Rattle.std.specs.List.{count_by}
use Rattle.flow_findings.specs.Findings.{has_no_frame}
use Rattle.flow_findings.proofs.explained.judged_runs.Given as goal

abbrev pub invariant-loop-run : goal.invariant-loop-run
invariant-loop-run l = record {
  count : l.judged + count_by (λ run. not (has_no_frame run.verdict)) (drop l.run-index l.runs)
      ≡ count_by (λ run. not (has_no_frame run.verdict)) l.runs;
  few : l.judged ≤ l.run-index;
}
