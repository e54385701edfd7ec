use Rattle.std.proofs.Common.{◌≡◌, ◌++◌, drop}
use Rattle.std.specs.Prelude.{string_bytes}
use Rattle.flow_measure.specs.Columns.{column_at}
use Rattle.flow_page.specs.chart.Curve.{over_text}
use Rattle.flow_page.specs.chart.Marks.{y_of}
use Rattle.flow_page.proofs.chart.curve.add_over.Given as goal

abbrev pub invariant-loop-column : goal.invariant-loop-column
invariant-loop-column l =
    string_bytes l.text ++ over_text l.plot l.column l.before.tenths (drop l.column l.columns)
    ≡ string_bytes l.fn.text ++ over_text l.plot 0 (y_of l.plot (column_at l.columns 0).greatest) l.columns
