use Rattle.std.proofs.Common.{◌≡◌, ◌++◌, drop}
use Rattle.std.specs.Prelude.{string_bytes}
use Rattle.flow_page.specs.chart.Lines.{lines_after, lines_text}
use Rattle.flow_page.proofs.chart.lines.add_lines.Given as goal

abbrev pub invariant-loop-line : goal.invariant-loop-line
invariant-loop-line l =
    string_bytes l.text ++ lines_after l.plot l.names (drop l.line-index l.lines) ≡ string_bytes l.fn.text ++ lines_text l.plot l.lines
