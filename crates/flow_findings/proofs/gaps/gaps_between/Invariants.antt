use Rattle.std.proofs.Common.{◌≡◌, ◌++◌, drop}
use Rattle.std.specs.List.{flat_map}
use Rattle.flow_findings.specs.Gaps.{gap_before}
use Rattle.flow_findings.proofs.gaps.gaps_between.Given as goal

abbrev pub invariant-loop-run : goal.invariant-loop-run
invariant-loop-run l =
    l.gaps.items ++ flat_map (λ run. gap_before run.number run.expected) (drop l.run-index l.runs)
    ≡ flat_map (λ run. gap_before run.number run.expected) l.runs
