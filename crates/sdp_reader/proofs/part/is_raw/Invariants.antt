use Rattle.std.proofs.Common.{◌≡◌, map, drop}
use Rattle.std.specs.List.{list_any}
use Rattle.sdp_reader.specs.Parts.{is_raw_map}
use Rattle.sdp_reader.specs.Plain.{plain}
use Rattle.sdp_reader.proofs.part.is_raw.Given as goal

abbrev pub invariant-loop-line : goal.invariant-loop-line
invariant-loop-line l = list_any (is_raw_map l.format) (map plain (drop l.line-index l.body)) ≡ list_any (is_raw_map l.format) (map plain l.body)
