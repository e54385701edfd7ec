use Rattle.std.proofs.Common.{◌≡◌, drop}
use Rattle.flow_page.specs.chart.Charts.{over_lines}
use Rattle.flow_page.proofs.chart.chart.over_lines.Given as goal

abbrev pub invariant-loop-line : goal.invariant-loop-line
invariant-loop-line l = over_lines l.reach (drop l.line-index l.lines) ≡ over_lines l.fn.reached l.lines
