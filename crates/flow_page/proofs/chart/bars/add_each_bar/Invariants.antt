use Rattle.std.proofs.Common.{◌≡◌, ◌++◌, drop}
use Rattle.std.specs.Prelude.{string_bytes}
use Rattle.flow_page.specs.chart.Bars.{bars_text}
use Rattle.flow_page.proofs.chart.bars.add_each_bar.Given as goal

abbrev pub invariant-loop-k : goal.invariant-loop-k
invariant-loop-k l =
    string_bytes l.text ++ bars_text l.plot l.total l.k (drop l.k l.bars) ≡ string_bytes l.fn.text ++ bars_text l.plot l.total 0 l.bars
