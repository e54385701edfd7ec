use Rattle.std.proofs.Common.{◌≡◌, ◌++◌, map, drop}
use Rattle.std.specs.List.{flat_map}
use Rattle.sdp_reader.specs.Plain.{plain}
use Rattle.sdp_notes.specs.Notes.{line_notes}
use Rattle.sdp_notes.specs.Seen.{note_of}
use Rattle.sdp_notes.proofs.section.add_lines.Given as goal

abbrev pub invariant-loop-line : goal.invariant-loop-line
invariant-loop-line l =
    map note_of l.notes.items ++ flat_map (line_notes l.format) (map plain (drop l.line-index l.body))
    ≡ map note_of l.fn.notes.items ++ flat_map (line_notes l.format) (map plain l.body)
