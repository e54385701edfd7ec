use Rattle.std.proofs.Common.{◌≡◌, ◌++◌, drop}
use Rattle.std.specs.Prelude.{string_bytes}
use Rattle.std.specs.List.{flat_map}
use Rattle.timing_report.specs.Text.{text_of_lines, row_lines}
use Rattle.timing_report.proofs.text.add_rows.Given as goal

abbrev pub invariant-loop-row : goal.invariant-loop-row
invariant-loop-row l =
    string_bytes l.text ++ text_of_lines (flat_map (row_lines l.session) (drop l.row-index l.rows))
    ≡ string_bytes l.fn.text ++ text_of_lines (flat_map (row_lines l.session) l.rows)
