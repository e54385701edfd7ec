use Rattle.std.proofs.Common.{◌≡◌, drop, find}
use Rattle.flow_findings.specs.Findings.{may_be_of}
use Rattle.flow_findings.proofs.findings.stream_of.Given as goal

abbrev pub invariant-loop-stream : goal.invariant-loop-stream
invariant-loop-stream l =
    find (may_be_of l.session l.media) (drop l.stream-index l.streams) ≡ find (may_be_of l.session l.media) l.streams
