use Rattle.std.proofs.Common.{◌≡◌, ◌++◌, map, take, drop}
use Rattle.sdp_reader.specs.Parts.{own_lines}
use Rattle.sdp_reader.specs.Plain.{plain}
use Rattle.sdp_reader.proofs.part.own_lines.Given as goal

abbrev pub invariant-loop-i : goal.invariant-loop-i
invariant-loop-i l = map plain (take l.i l.lines) ++ own_lines (map plain (drop l.i l.lines)) ≡ own_lines (map plain l.lines)
