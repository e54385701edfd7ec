-- Histograms: bars side by side over an axis of counts, one for each bin or class. A bar takes the middle eight tenths
-- of its place, so that bars don't touch. This project's own format.
use Rattle.std.specs.Prelude.{ℕ, pos, ◌+◌, ◌-◌, ◌*◌, ◌/◌, ◌%◌, ◌==◌, ◌&&◌, ◌||◌, max, nat_le, Bool}
use Rattle.std.specs.Prelude.{if◌then◌else◌, List, [], ◌∷◌, ◌++◌, codes}
use Rattle.std.specs.Fmt.{decimal}
use Rattle.std.specs.Int.{div_ceil}
use Rattle.flow_page.specs.chart.Grid.{grid_text, units_text}
use Rattle.flow_page.specs.chart.Marks.{above, below, bottom_of, tenths_text, y_of}
use Rattle.flow_page.specs.declared.chart.axis.Axis.{Axis}
use Rattle.flow_page.specs.declared.chart.bars.Bar.{Bar}
use Rattle.flow_page.specs.declared.chart.bars.BarName.{BarName}
use Rattle.flow_page.specs.declared.chart.bars.BarName.TheVariants.{Below, From, Above}
use Rattle.flow_page.specs.declared.chart.bars.BarTold.{BarTold}
use Rattle.flow_page.specs.declared.chart.bars.BarTold.TheVariants.{Name, Share}
use Rattle.flow_page.specs.declared.chart.grid.Unit.{Unit}
use Rattle.flow_page.specs.declared.chart.grid.UnitAcross.{UnitAcross}
use Rattle.flow_page.specs.declared.chart.plot.Panel.{Panel}
use Rattle.flow_page.specs.declared.chart.plot.Plot.{Plot}

-- the plot with one place for each bar
abbrev pub plot_of_bars : Panel → Axis → ℕ → Plot
plot_of_bars panel axis count =
    record { panel = panel; axis = axis; across = record { start = 0; count = count; each = 1 } }

-- the x at `tenth` tenths of a bar's place from its left end; bars count from 0
unfoldable pub bar_x : Plot → (bar tenth : ℕ) → ℕ
bar_x p bar tenth = p.panel.left + p.panel.width * (10 * bar + tenth) / max 1 (10 * p.across.count)

-- the name of a bar: the numbers that it counts
abbrev pub bar_name : BarName → List ℕ
bar_name Below = codes "below 0"
bar_name (From first) = decimal first
bar_name (Above limit) = codes "above " ++ decimal limit

-- the CSS class of a bar: numbers below 0 or above a limit have the colour of limits
abbrev pub bar_style : BarName → List ℕ
bar_style Below = codes "bar over"
bar_style (From first) = codes "bar"
bar_style (Above limit) = codes "bar over"

-- a bar from the bottom up to its count, with name and count in words
unfoldable pub bar_piece : List ℕ → (left bottom y right : ℕ) → List ℕ → (count : ℕ) → List ℕ
bar_piece style left bottom y right name count =
    codes "<path class=\"" ++ (style ++ (codes "\" d=\"M" ++ (tenths_text left ++ (codes " " ++ (tenths_text bottom
    ++ (codes "V" ++ (tenths_text y ++ (codes "H" ++ (tenths_text right ++ (codes "V" ++ (tenths_text bottom
    ++ (codes "Z\"><title>" ++ (name ++ (codes ": " ++ (decimal count ++ codes "</title></path>")))))))))))))))

-- a bar, if it counts any number
abbrev pub bar_shape : Plot → ℕ → Bar → List ℕ
bar_shape p k bar =
    if bar.count == 0 then []
    else bar_piece (bar_style bar.name) (bar_x p k 1) (bottom_of p.panel) (y_of p (pos bar.count)) (bar_x p k 9)
    (bar_name bar.name) bar.count

-- the share of `count` in `total` in tenths of a percent, rounded down
unfoldable pub share_of : (total count : ℕ) → ℕ
share_of total count = count * 1000 / max 1 total

-- a share in percent
abbrev pub share_text : ℕ → List ℕ
share_text share = if share == 0 then codes "&lt;0.1 %" else tenths_text share ++ codes " %"

-- a label of a bar
abbrev pub told_text : BarTold → List ℕ
told_text (Name name) = bar_name name
told_text (Share share) = share_text share

-- a label centred at a bar
unfoldable pub bar_label : (middle base : ℕ) → List ℕ → List ℕ
bar_label middle base name =
    codes "<text x=\"" ++ (tenths_text middle ++ (codes "\" y=\"" ++ (tenths_text base
    ++ (codes "\" text-anchor=\"middle\">" ++ (name ++ codes "</text>")))))

-- how many bars take sixty SVG units, the width of eight digits, rounded up
unfoldable pub label_step : Plot → ℕ
label_step p = max 1 (div_ceil (600 * p.across.count) (max 1 p.panel.width))

-- the count of bars after bar k
abbrev pub behind : Plot → ℕ → ℕ
behind p k = p.across.count - (k + 1)

-- bar k has a name: the first bar, the last bar, and each bar at a multiple of `label_step` that is at least that far
-- from the last one
unfoldable pub has_name : Plot → ℕ → Bool
has_name p k =
    k == 0 || (behind p k == 0 || (k % label_step p == 0 && nat_le (label_step p) (behind p k)))

-- the name of a bar below it, if it has one
abbrev pub some_label : Plot → ℕ → Bar → List ℕ
some_label p k bar =
    if has_name p k then bar_label (bar_x p k 5) (below p.panel 160) (told_text (Name bar.name)) else []

-- the share of a bar above it, if each bar has a name
abbrev pub some_share : Plot → (total k : ℕ) → Bar → List ℕ
some_share p total k bar =
    if bar.count == 0 then []
    else if label_step p == 1
    then bar_label (bar_x p k 5) (above p (pos bar.count)) (told_text (Share (share_of total bar.count))) else []

-- the line of a limit
unfoldable pub limit_line : (x top bottom : ℕ) → List ℕ
limit_line x top bottom =
    codes "<path class=\"lim\" d=\"M" ++ (tenths_text x ++ (codes " " ++ (tenths_text top ++ (codes "V"
    ++ (tenths_text bottom ++ codes "\"/>")))))

-- the number of a limit to the left of its line
unfoldable pub limit_number : (before base limit : ℕ) → List ℕ
limit_number before base limit =
    codes "<text class=\"lim\" x=\"" ++ (tenths_text before ++ (codes "\" y=\"" ++ (tenths_text base
    ++ (codes "\" text-anchor=\"end\">limit " ++ (decimal limit ++ codes "</text>")))))

-- the line of a limit, to the left of the bar of the numbers above it
abbrev pub limit_before : Plot → ℕ → BarName → List ℕ
limit_before p k Below = []
limit_before p k (From first) = []
limit_before p k (Above limit) =
    limit_line (bar_x p k 0) p.panel.top (bottom_of p.panel)
    ++ limit_number (bar_x p k 0 - 40) (p.panel.top + 100) limit

-- bar k, from 0, with its share of `total`, its name and its limit
abbrev pub bar_text : Plot → (total k : ℕ) → Bar → List ℕ
bar_text p total k bar =
    bar_shape p k bar ++ (some_share p total k bar ++ (some_label p k bar ++ limit_before p k bar.name))

-- all bars from bar k on
abbrev pub bars_text : Plot → (total k : ℕ) → List Bar → List ℕ
bars_text p total k [] = []
bars_text p total k (bar ∷ rest) = bar_text p total k bar ++ bars_text p total (k + 1) rest

-- bars over their grid, with the units
abbrev pub bars_picture : Plot → Unit → UnitAcross → (total : ℕ) → List Bar → List ℕ
bars_picture p unit across total bars =
    grid_text p unit ++ (units_text p unit across ++ bars_text p total 0 bars)
