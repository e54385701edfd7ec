use Rattle.std.proofs.Common.{◌≡◌, ◌++◌, drop}
use Rattle.std.specs.Prelude.{string_bytes}
use Rattle.std.specs.List.{flat_map}
use Rattle.timing_top.specs.verify.Verified.{checked_line}
use Rattle.timing_top.proofs.verify.words.add_each.Given as goal

abbrev pub invariant-loop-item : goal.invariant-loop-item
invariant-loop-item l =
    string_bytes l.text ++ flat_map checked_line (drop l.item-index l.checked) ≡ string_bytes l.fn.text ++ flat_map checked_line l.checked
