use Rattle.std.proofs.Common.{◌≡◌, ◌++◌}
use Rattle.std.specs.Prelude.{string_bytes}
use Rattle.flow_page.specs.chart.Grid.{frame_rule}
use Rattle.flow_page.specs.chart.Pieces.{upto}
use Rattle.flow_page.proofs.chart.grid.add_frame_rules.Given as goal

abbrev pub invariant-loop-k : goal.invariant-loop-k
invariant-loop-k l = string_bytes l.text ≡ string_bytes l.fn.text ++ upto (frame_rule l.plot l.every) l.k
