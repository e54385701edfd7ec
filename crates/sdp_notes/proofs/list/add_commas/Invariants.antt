use Rattle.std.proofs.Common.{◌≡◌, ◌++◌, map, drop}
use Rattle.std.specs.List.{flat_map}
use Rattle.sdp_notes.specs.Notes.{comma_notes}
use Rattle.sdp_notes.specs.Seen.{note_of}
use Rattle.sdp_notes.proofs.list.add_commas.Given as goal

abbrev pub invariant-loop-piece : goal.invariant-loop-piece
invariant-loop-piece l =
    map note_of l.notes.items ++ flat_map (comma_notes l.line) (map (λ piece. piece.now) (drop l.piece-index l.pieces))
    ≡ map note_of l.fn.notes.items ++ flat_map (comma_notes l.line) (map (λ piece. piece.now) l.pieces)
