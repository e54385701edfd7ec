use Rattle.std.proofs.Common.{◌≡◌, ◌++◌}
use Rattle.std.specs.Prelude.{string_bytes, encode_utf8_all}
use Rattle.std.specs.List.{flat_map}
use Rattle.flow_page.specs.chart.Escapes.{written}
use Rattle.flow_page.proofs.chart.escape.add_escaped.Given as goal

abbrev pub invariant-loop-c : goal.invariant-loop-c
invariant-loop-c l =
    string_bytes l.text ≡ string_bytes l.fn.text ++ flat_map (λ c. encode_utf8_all (written c)) l.yielded
