use Rattle.std.proofs.Common.{◌≡◌, ◌++◌, drop}
use Rattle.std.specs.Prelude.{string_bytes}
use Rattle.std.specs.List.{flat_map}
use Rattle.flow_page.specs.Numbers.{type_row}
use Rattle.flow_page.proofs.numbers.add_type_rows.Given as goal

abbrev pub invariant-loop-shown : goal.invariant-loop-shown
invariant-loop-shown l =
    string_bytes l.text ++ flat_map type_row (drop l.shown-index l.types) ≡ string_bytes l.fn.text ++ flat_map type_row l.types
