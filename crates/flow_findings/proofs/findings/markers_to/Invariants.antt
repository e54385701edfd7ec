use Rattle.std.proofs.Common.{◌≡◌, drop, find}
use Rattle.timing_base.specs.Targets.{is_same_target, target_of}
use Rattle.flow_findings.proofs.findings.markers_to.Given as goal

abbrev pub invariant-loop-stream : goal.invariant-loop-stream
invariant-loop-stream l =
    find (λ s. is_same_target s.target (target_of l.media)) (drop l.stream-index l.streams)
    ≡ find (λ s. is_same_target s.target (target_of l.media)) l.streams
