use Rattle.std.specs.Prelude.{string_bytes}
use Rattle.flow_page.specs.chart.Grid.{grid_line}
use Rattle.flow_page.proofs.lemmas.chart.Texts.{one_upto}
use Rattle.flow_page.proofs.chart.grid.add_grid.Goals as goal

pub loop-k-preserved : goal.loop-k-preserved
loop-k-preserved c =
    one_upto (grid_line c.args.plot c.args.unit) (string_bytes c.args.text.now) _ _ c.loop-k.k c.loop-k.invariant c.in_ok-add_grid_line.ensures
