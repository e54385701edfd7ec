use Rattle.std.proofs.Common.{◌≡◌, ◌++◌, drop, false}
use Rattle.std.specs.Prelude.{string_bytes, nat_lt}
use Rattle.std.specs.Fmt.{decimal}
use Rattle.flow_measure.specs.report.Json.{items_text}
use Rattle.flow_measure.proofs.report.pieces.add_counts.Given as goal

abbrev pub invariant-loop-index : goal.invariant-loop-index
invariant-loop-index l =
    string_bytes l.text ++ items_text decimal (nat_lt 0 l.index) (drop l.index l.counts)
    ≡ string_bytes l.fn.text ++ items_text decimal false l.counts
