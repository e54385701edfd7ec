use Rattle.std.proofs.Common.{◌≡◌, ◌++◌, drop}
use Rattle.std.specs.Prelude.{string_bytes}
use Rattle.std.specs.List.{flat_map}
use Rattle.flow_page.specs.Media.{type_cells}
use Rattle.flow_page.proofs.media.add_type_cells.Given as goal

abbrev pub invariant-loop-shown : goal.invariant-loop-shown
invariant-loop-shown l =
    string_bytes l.text ++ flat_map type_cells (drop l.shown-index l.types) ≡ string_bytes l.fn.text ++ flat_map type_cells l.types
