use Rattle.std.proofs.Common.{◌≡◌, ◌++◌}
use Rattle.std.specs.Prelude.{string_bytes}
use Rattle.flow_page.specs.chart.Grid.{grid_line}
use Rattle.flow_page.specs.chart.Pieces.{upto}
use Rattle.flow_page.proofs.chart.grid.add_grid.Given as goal

abbrev pub invariant-loop-k : goal.invariant-loop-k
invariant-loop-k l = string_bytes l.text ≡ string_bytes l.fn.text ++ upto (grid_line l.plot l.unit) l.k
