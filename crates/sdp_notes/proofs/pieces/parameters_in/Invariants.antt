use Rattle.std.proofs.Common.{◌≡◌, ◌==◌, ◌++◌, not, map, drop, length}
use Rattle.std.specs.List.{filter}
use Rattle.sdp_reader.specs.Bytes.{trim}
use Rattle.sdp_notes.specs.Notes.{parameters_in}
use Rattle.sdp_notes.proofs.pieces.parameters_in.Given as goal

abbrev pub invariant-loop-piece : goal.invariant-loop-piece
invariant-loop-piece l =
    map (λ parameter. parameter.now) l.parameters.items
    ++ filter (λ t. not (length t == 0)) (map trim (map (λ piece. piece.now) (drop l.piece-index l.pieces)))
    ≡ parameters_in l.list
