use Rattle.std.proofs.Common.{◌≡◌, ◌++◌, drop}
use Rattle.std.specs.Prelude.{string_bytes}
use Rattle.std.specs.List.{flat_map}
use Rattle.flow_page.specs.Words.{type_words}
use Rattle.flow_page.proofs.words.add_words.Given as goal

abbrev pub invariant-loop-shown : goal.invariant-loop-shown
invariant-loop-shown l =
    string_bytes l.text ++ flat_map (λ t. type_words t l.group l.shift) (drop l.shown-index l.types)
    ≡ string_bytes l.fn.text ++ flat_map (λ t. type_words t l.group l.shift) l.types
