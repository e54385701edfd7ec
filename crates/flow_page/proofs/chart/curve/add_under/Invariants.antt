use Rattle.std.proofs.Common.{◌≡◌, ◌++◌, ◌-◌, drop, length}
use Rattle.std.specs.Prelude.{string_bytes}
use Rattle.flow_measure.specs.Columns.{column_at}
use Rattle.flow_page.specs.chart.Curve.{comes_from, under_text}
use Rattle.flow_page.proofs.chart.curve.add_under.Given as goal

abbrev pub invariant-loop-done : goal.invariant-loop-done
invariant-loop-done l =
    (string_bytes l.text
    ≡ string_bytes l.fn.text ++ under_text l.plot (length l.columns - l.done) (drop (length l.columns - l.done) l.columns))
    × (l.before.tenths
    ≡ comes_from l.plot (column_at l.columns (length l.columns - 1)) (drop (length l.columns - l.done) l.columns))
