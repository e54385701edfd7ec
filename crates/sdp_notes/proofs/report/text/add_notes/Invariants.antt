use Rattle.std.proofs.Common.{◌≡◌, ◌++◌, map, drop}
use Rattle.std.specs.Prelude.{string_bytes}
use Rattle.std.specs.List.{flat_map}
use Rattle.sdp_notes.specs.Seen.{note_of}
use Rattle.sdp_notes.specs.report.Text.{note_text}
use Rattle.sdp_notes.proofs.report.text.add_notes.Given as goal

abbrev pub invariant-loop-note : goal.invariant-loop-note
invariant-loop-note l =
    string_bytes l.text ++ flat_map note_text (map note_of (drop l.note-index l.notes))
    ≡ string_bytes l.fn.text ++ flat_map note_text (map note_of l.notes)
