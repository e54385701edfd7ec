use Rattle.std.proofs.Common.{◌≡◌, ◌==◌, ◌++◌, map, length}
use Rattle.std.specs.List.{slice_split}
use Rattle.sdp_notes.proofs.pieces.split.Given as goal

-- the pieces so far and those of the rest are those of the text
abbrev pub invariant-loop-piece : goal.invariant-loop-piece
invariant-loop-piece l =
    map (λ piece. piece.now) l.pieces.items ++ slice_split (λ x. x == l.byte) l.rest ≡ slice_split (λ x. x == l.byte) l.fn.text

abbrev pub decreases-loop-piece : goal.decreases-loop-piece
decreases-loop-piece l = length l.rest
