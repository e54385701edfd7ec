-- A picture worked by hand: the bucket at 40 packets of two frames, in which the first five packets of the second frame
-- arrive at one instant (level 1, except 1 to 5 at packets 20 to 24). It has columns of 6 packets, over an axis from 0
-- to 5 with a tick at each number. One step of the axis is 20 SVG units, and one packet takes 2 units.
use Rattle.std.specs.Prelude.{ℕ, pos, List, [], ◌∷◌}
use Rattle.flow_measure.specs.Worked.{column}
use Rattle.flow_measure.specs.declared.columns.Extremes.{Extremes}
use Rattle.flow_page.specs.chart.Bars.{plot_of_bars}
use Rattle.flow_page.specs.declared.chart.bars.Bar.{Bar}
use Rattle.flow_page.specs.declared.chart.bars.BarName.{BarName}
use Rattle.flow_page.specs.declared.chart.bars.BarName.TheVariants.{From, Above}
use Rattle.flow_page.specs.declared.chart.lines.Limit.{Limit}
use Rattle.flow_page.specs.declared.chart.lines.LineName.TheVariants.{BothNarrow, Empty}
use Rattle.flow_page.specs.declared.chart.plot.Plot.{Plot}

-- the plot of the burst
abbrev pub burst_plot : Plot
burst_plot = record {
  panel = record { left = 300; width = 800; top = 200; height = 1000 };
  axis = record { low = pos 0; step = 1; steps = 5 };
  across = record { start = 0; count = 40; each = 6 };
}

-- the columns of the burst
abbrev pub burst_columns : List Extremes
burst_columns =
    column (pos 1) (pos 1) ∷ column (pos 1) (pos 1) ∷ column (pos 1) (pos 1) ∷ column (pos 1) (pos 4)
    ∷ column (pos 1) (pos 5) ∷ column (pos 1) (pos 1) ∷ column (pos 1) (pos 1) ∷ []

-- the limit of a narrow sender's bucket
abbrev pub limit_of_4 : Limit
limit_of_4 = record { name = BothNarrow; at = pos 4 }

-- the line of an empty buffer
abbrev pub nothing : Limit
nothing = record { name = Empty; at = pos 0 }

-- the histogram of its bucket: 36 packets at level 1, and one each at 2, 3, 4 and 5, which is above the limit. Six bars
-- of 20 SVG units stand over an axis from 0 to 40, and three bars have the width of a name. This is one bar of it
abbrev pub bar : BarName → ℕ → Bar
bar name count = record { name = name; count = count }

-- the six bars
abbrev pub burst_bars : List Bar
burst_bars =
    bar (From 0) 0 ∷ bar (From 1) 36 ∷ bar (From 2) 1 ∷ bar (From 3) 1 ∷ bar (From 4) 1 ∷ bar (Above 4) 1 ∷ []

-- the plot of the six bars
abbrev pub bars_plot : Plot
bars_plot = plot_of_bars
    (record { left = 300; width = 1200; top = 200; height = 1000 })
    (record { low = pos 0; step = 10; steps = 4 })
    6

-- the same axis, over eight bars of 20 SVG units
abbrev pub eight_plot : Plot
eight_plot = plot_of_bars
    (record { left = 300; width = 1600; top = 200; height = 1000 })
    (record { low = pos 0; step = 10; steps = 4 })
    8

-- the same axis, over two bars of 60 SVG units
abbrev pub wide_plot : Plot
wide_plot = plot_of_bars
    (record { left = 300; width = 1200; top = 200; height = 1000 })
    (record { low = pos 0; step = 10; steps = 4 })
    2
