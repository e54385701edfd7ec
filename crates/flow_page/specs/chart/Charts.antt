-- Whole pictures: their axes include all numbers and limits, and their left margins have room for the longest number.
-- Sizes are tenths of an SVG unit. A digit takes at most 7.8 units. This project's own format.
use Rattle.std.specs.Prelude.{◌≤ℤ◌, ℕ, ℤ, pos, neg_ℤ, ◌+◌, ◌-◌, ◌*◌, ◌^◌, min, max, Bool, true, false}
use Rattle.std.specs.Prelude.{List, [], ◌∷◌, ◌++◌, length}
use Rattle.std.specs.Fmt.{signed_decimal}
use Rattle.std.specs.Int.{int_max, int_min}
use Rattle.flow_measure.specs.Columns.{column_at}
use Rattle.flow_measure.specs.declared.columns.Extremes.{Extremes}
use Rattle.flow_page.specs.chart.Axes.{axis_of}
use Rattle.flow_page.specs.chart.Bars.{bars_picture, plot_of_bars}
use Rattle.flow_page.specs.chart.Curve.{band_text}
use Rattle.flow_page.specs.chart.Figures.{figure_end, figure_start}
use Rattle.flow_page.specs.chart.Grid.{frame_rules, grid_text, marks_across, shown, units_text}
use Rattle.flow_page.specs.chart.Lines.{lines_text}
use Rattle.flow_page.specs.chart.Marks.{high}
use Rattle.flow_page.specs.chart.Shades.{shade_text}
use Rattle.flow_page.specs.declared.chart.axis.Axis.{Axis}
use Rattle.flow_page.specs.declared.chart.bars.Bar.{Bar}
use Rattle.flow_page.specs.declared.chart.chart.Scene.{Scene}
use Rattle.flow_page.specs.declared.chart.grid.Unit.{Unit}
use Rattle.flow_page.specs.declared.chart.grid.Unit.TheVariants.{Packets}
use Rattle.flow_page.specs.declared.chart.grid.UnitAcross.{UnitAcross}
use Rattle.flow_page.specs.declared.chart.lines.Limit.{Limit}
use Rattle.flow_page.specs.declared.chart.plot.Panel.{Panel}
use Rattle.flow_page.specs.declared.chart.plot.Plot.{Plot}

-- the least and the greatest of two pairs
abbrev pub wider : Extremes → Extremes → Extremes
wider a b = record { least = int_min a.least b.least; greatest = int_max a.greatest b.greatest }

-- the least and the greatest of a pair and columns
abbrev pub over_columns : Extremes → List Extremes → Extremes
over_columns e [] = e
over_columns e (x ∷ xs) = over_columns (wider e x) xs

-- the least and the greatest of a pair and the numbers of lines
abbrev pub over_lines : Extremes → List Limit → Extremes
over_lines e [] = e
over_lines e (l ∷ ls) = over_lines (wider e (record { least = l.at; greatest = l.at })) ls

-- a number, limited to what an axis can show: -2^61 to 2^61
abbrev pub bounded : ℤ → ℤ
bounded z = int_max (int_min z (pos (2 ^ 61))) (neg_ℤ (pos (2 ^ 61)))

-- the axis from the least to the greatest number
abbrev pub axis_over : Extremes → Axis
axis_over e = axis_of (bounded e.least) (int_max (bounded e.greatest) (bounded e.least))

-- a number is on an axis, up to what an axis can show
abbrev pub IsOn : Axis → ℤ → Type 0
IsOn a x = (a.low ≤ℤ bounded x) × (bounded x ≤ℤ high a)

-- the width of a number
abbrev pub number_room : ℤ → ℕ
number_room z = 78 * min 40 (length (signed_decimal z))

-- the width of the numbers of an axis, with their distance to its line
abbrev pub room_of : Unit → Axis → ℕ
room_of unit a = 160 + max (number_room (shown unit a 0)) (number_room (shown unit a a.steps))

-- the panel to the right of a margin; at its right the names of lines have 100 units
abbrev pub panel_of : (wide : Bool) → (room : ℕ) → Panel
panel_of true room = record { left = room; width = 12000 - room; top = 200; height = 1600 }
panel_of false room = record { left = room; width = 5400 - room; top = 200; height = 1600 }

-- the plot of a scene over an axis
abbrev pub plot_of : Scene → Axis → Plot
plot_of s a = record { panel = panel_of s.wide (room_of s.unit a); axis = a; across = s.across }

-- the curve of columns over its grid, and the lines of limits over it
abbrev pub curve_text : Plot → Scene → List Limit → List Extremes → List ℕ
curve_text p s lines columns =
    grid_text p s.unit ++ (marks_across p ++ (units_text p s.unit s.along ++ (frame_rules p s.every
    ++ (shade_text p s.unit s.shade ++ (band_text p columns ++ lines_text p lines)))))

-- the axis of columns and lines
abbrev pub curve_axis : List Limit → List Extremes → Axis
curve_axis lines columns = axis_over (over_lines (over_columns (column_at columns 0) columns) lines)

-- the picture of columns
abbrev pub curve_figure : (title detail : List ℕ) → Scene → List Limit → List Extremes → List ℕ
curve_figure title detail s lines columns =
    figure_start s.wide title detail
    ++ (curve_text (plot_of s (curve_axis lines columns)) s lines columns ++ figure_end)

-- the greatest count of a bar
abbrev pub most_of : (so_far : ℕ) → List Bar → ℕ
most_of so_far [] = so_far
most_of so_far (bar ∷ bars) = most_of (max so_far bar.count) bars

-- the axis of the counts of bars
abbrev pub bars_axis : List Bar → Axis
bars_axis bars = axis_over (record { least = pos 0; greatest = pos (most_of 0 bars) })

-- the panel of bars over an axis
abbrev pub bars_panel : Axis → Panel
bars_panel a = panel_of false (room_of Packets a)

-- the picture of bars, which count `total` numbers
abbrev pub bars_figure : (title detail : List ℕ) → UnitAcross → (total : ℕ) → List Bar → List ℕ
bars_figure title detail along total bars =
    figure_start false title detail
    ++ (bars_picture (plot_of_bars (bars_panel (bars_axis bars)) (bars_axis bars) (length bars)) Packets along total
    bars
    ++ figure_end)
