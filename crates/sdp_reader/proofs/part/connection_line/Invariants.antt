use Rattle.std.proofs.Common.{◌≡◌, map, drop}
use Rattle.sdp_reader.specs.Parts.{connection_line}
use Rattle.sdp_reader.specs.Plain.{plain}
use Rattle.sdp_reader.proofs.part.connection_line.Given as goal

abbrev pub invariant-loop-line : goal.invariant-loop-line
invariant-loop-line l = connection_line (map plain (drop l.line-index l.lines)) ≡ connection_line (map plain l.lines)
