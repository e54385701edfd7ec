use Rattle.std.proofs.Common.{◌≡◌, ◌++◌, map, drop}
use Rattle.sdp_reader.specs.Plain.{plain}
use Rattle.sdp_notes.specs.Notes.{notes_on}
use Rattle.sdp_notes.specs.Seen.{note_of}
use Rattle.sdp_notes.proofs.described.notes_on.Given as goal

abbrev pub invariant-loop-i : goal.invariant-loop-i
invariant-loop-i l = map note_of l.notes.items ++ notes_on (map plain (drop l.i l.lines)) ≡ notes_on (map plain l.lines)
