use Rattle.std.proofs.Common.{◌≡◌, ◌++◌}
use Rattle.std.specs.Prelude.{string_bytes}
use Rattle.flow_page.specs.chart.Grid.{some_mark_across}
use Rattle.flow_page.specs.chart.Pieces.{upto}
use Rattle.flow_page.proofs.chart.grid.add_marks_across.Given as goal

abbrev pub invariant-loop-k : goal.invariant-loop-k
invariant-loop-k l = string_bytes l.text ≡ string_bytes l.fn.text ++ upto (some_mark_across l.plot) l.k
