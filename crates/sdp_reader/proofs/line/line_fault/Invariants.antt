use Rattle.std.proofs.Common.{◌≡◌, map, drop}
use Rattle.std.specs.List.{flat_map}
use Rattle.sdp_reader.specs.Fault.{first_of, least}
use Rattle.sdp_reader.specs.Lines.{line_faults}
use Rattle.sdp_reader.specs.Plain.{plain}
use Rattle.sdp_reader.proofs.line.line_fault.Given as goal

abbrev pub invariant-loop-line : goal.invariant-loop-line
invariant-loop-line l =
    first_of l.fault (least (flat_map line_faults (map plain (drop l.line-index l.lines)))) ≡ least (flat_map line_faults (map plain l.lines))
