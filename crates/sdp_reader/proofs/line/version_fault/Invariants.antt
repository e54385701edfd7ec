use Rattle.std.proofs.Common.{◌≡◌, map, drop}
use Rattle.sdp_reader.specs.Lines.{version_faults}
use Rattle.sdp_reader.specs.Plain.{plain}
use Rattle.sdp_reader.proofs.line.version_fault.Given as goal

abbrev pub invariant-loop-line : goal.invariant-loop-line
invariant-loop-line l = version_faults (map plain (drop l.line-index l.lines)) ≡ version_faults (map plain l.lines)
