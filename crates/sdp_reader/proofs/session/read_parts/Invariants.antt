use Rattle.std.proofs.Common.{map, drop}
use Rattle.std.specs.List.{filter_map}
use Rattle.std.specs.Option.{option_map}
use Rattle.sdp_reader.specs.Parts.{parts, raw_of}
use Rattle.sdp_reader.specs.Plain.{plain}
use Rattle.sdp_reader.specs.Summary.{Keeps}
use Rattle.sdp_reader.proofs.session.read_parts.Given as goal

abbrev pub invariant-loop-i : goal.invariant-loop-i
invariant-loop-i l =
    Keeps l.kept (filter_map (raw_of (option_map plain l.session)) (parts (map plain (drop l.i l.lines))))
    (filter_map (raw_of (option_map plain l.session)) (parts (map plain l.lines)))
