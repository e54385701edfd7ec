use Rattle.std.proofs.Common.{◌≡◌, ◌++◌, map, drop}
use Rattle.std.specs.Prelude.{string_bytes}
use Rattle.sdp_notes.specs.report.Text.{more_names}
use Rattle.sdp_notes.proofs.report.shown.add_more_names.Given as goal

abbrev pub invariant-loop-name : goal.invariant-loop-name
invariant-loop-name l =
    string_bytes l.text ++ more_names (map (λ name. name.now) (drop l.name-index l.names))
    ≡ string_bytes l.fn.text ++ more_names (map (λ name. name.now) l.names)
