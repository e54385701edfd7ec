use Rattle.std.proofs.Common.{◌≡◌, map, take}
use Rattle.serde_json.specs.View.{view}
use Rattle.sdp_notes.specs.Seen.{note_of}
use Rattle.sdp_notes.specs.report.Json.{note_data}
use Rattle.sdp_notes.proofs.report.json.note_values.Given as goal

abbrev pub invariant-loop-note : goal.invariant-loop-note
invariant-loop-note l = map view l.values.items ≡ map note_data (map note_of (take l.note-index l.notes))
