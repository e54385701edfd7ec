use Rattle.std.proofs.Common.{◌≡◌, ◌++◌, map, drop}
use Rattle.sdp_notes.specs.Notes.{unknown_names}
use Rattle.sdp_notes.proofs.pieces.unknown_names.Given as goal

abbrev pub invariant-loop-parameter : goal.invariant-loop-parameter
invariant-loop-parameter l =
    map (λ name. name.now) l.names.items ++ unknown_names (map (λ parameter. parameter.now) (drop l.parameter-index l.parameters))
    ≡ unknown_names (map (λ parameter. parameter.now) l.parameters)
