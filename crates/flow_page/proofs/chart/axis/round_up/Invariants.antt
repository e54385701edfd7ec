use Rattle.std.proofs.Common.{◌≡◌, ◌≤◌, ◌+◌, ◌-◌, ◌*◌}
use Rattle.flow_page.specs.chart.Axes.{round_from, round_up}
use Rattle.flow_page.proofs.chart.axis.round_up.Given as goal

abbrev pub invariant-loop-tried : goal.invariant-loop-tried
invariant-loop-tried l =
    (1 ≤ l.power) × (l.power ≤ 2 * l.wanted + 1) × (round_from (19 - l.tried) l.power l.wanted ≡ round_up l.wanted)
