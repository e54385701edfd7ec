use Rattle.std.proofs.Common.{◌≡◌, ◌++◌, map, drop}
use Rattle.std.specs.List.{flat_map}
use Rattle.sdp_notes.specs.Notes.{parameter_notes}
use Rattle.sdp_notes.specs.Seen.{note_of}
use Rattle.sdp_notes.proofs.list.add_parameters.Given as goal

abbrev pub invariant-loop-parameter : goal.invariant-loop-parameter
invariant-loop-parameter l =
    map note_of l.notes.items ++ flat_map (parameter_notes l.line) (map (λ parameter. parameter.now) (drop l.parameter-index l.parameters))
    ≡ map note_of l.fn.notes.items ++ flat_map (parameter_notes l.line) (map (λ parameter. parameter.now) l.parameters)
