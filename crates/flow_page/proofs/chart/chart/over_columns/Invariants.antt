use Rattle.std.proofs.Common.{◌≡◌, drop}
use Rattle.flow_measure.specs.Columns.{column_at}
use Rattle.flow_page.specs.chart.Charts.{over_columns}
use Rattle.flow_page.proofs.chart.chart.over_columns.Given as goal

abbrev pub invariant-loop-column : goal.invariant-loop-column
invariant-loop-column l =
    over_columns l.reach (drop l.column-index l.columns) ≡ over_columns (column_at l.columns 0) l.columns
