-- The lines of limits, each with its name at its right end, beside the panel, where there is no curve. A name that
-- would touch those before it is placed above all of them.
use Rattle.std.specs.Prelude.{ℕ, ℤ, ◌-◌, ◌||◌, min, max, nat_le, if◌then◌else◌, List, [], ◌∷◌, ◌++◌, codes, Option}
use Rattle.std.specs.Prelude.{Some}
use Rattle.std.specs.Prelude.{None}
use Rattle.std.specs.Fmt.{signed_decimal}
use Rattle.flow_page.specs.chart.Marks.{base_of, name_x, right_of, tenths_text, y_of}
use Rattle.flow_page.specs.declared.chart.lines.Limit.{Limit}
use Rattle.flow_page.specs.declared.chart.lines.LineName.{LineName}
use Rattle.flow_page.specs.declared.chart.lines.LineName.TheVariants.{BothNarrow, Empty, Narrow, NarrowLinear, Offset}
use Rattle.flow_page.specs.declared.chart.lines.LineName.TheVariants.{Period, Wide}
use Rattle.flow_page.specs.declared.chart.lines.Names.{Names}
use Rattle.flow_page.specs.declared.chart.plot.Plot.{Plot}

-- the name of a line, with its number for C_MAX and VRX_FULL
abbrev pub label_text : LineName → ℤ → List ℕ
label_text Narrow at = codes "N " ++ signed_decimal at
label_text NarrowLinear at = codes "NL " ++ signed_decimal at
label_text BothNarrow at = codes "N, NL " ++ signed_decimal at
label_text Wide at = codes "W " ++ signed_decimal at
label_text Empty at = codes "empty"
label_text Offset at = codes "TR_OFFSET"
label_text Period at = codes "T_GROUP"

-- the CSS class of a line: those of W are dotted, others dashed
abbrev pub style_of : LineName → List ℕ
style_of Narrow = codes "lim"
style_of NarrowLinear = codes "lim"
style_of BothNarrow = codes "lim"
style_of Wide = codes "lim w"
style_of Empty = codes "lim"
style_of Offset = codes "lim"
style_of Period = codes "lim"

-- a line across the panel
unfoldable pub stroke_piece : List ℕ → (left y right : ℕ) → List ℕ
stroke_piece style left y right =
    codes "<path class=\"" ++ (style ++ (codes "\" d=\"M" ++ (tenths_text left ++ (codes " " ++ (tenths_text y
    ++ (codes "H" ++ (tenths_text right ++ codes "\"/>")))))))

-- a name beside its line
unfoldable pub name_piece : List ℕ → (x base : ℕ) → List ℕ → List ℕ
name_piece style x base label =
    codes "<text class=\"" ++ (style ++ (codes "\" x=\"" ++ (tenths_text x ++ (codes "\" y=\"" ++ (tenths_text base
    ++ (codes "\">" ++ (label ++ codes "</text>")))))))

-- a line, and its name with the baseline at `base`
abbrev pub line_text : Plot → (base : ℕ) → Limit → List ℕ
line_text p base line =
    stroke_piece (style_of line.name) p.panel.left (y_of p line.at) (right_of p.panel)
    ++ name_piece (style_of line.name) (name_x p.panel) base (label_text line.name line.at)

-- the baseline of a name: that of its line if it is at least 14 SVG units above all placed names, or below all of them,
-- else 14 units above all
unfoldable pub free_of : (own : ℕ) → Names → ℕ
free_of own n = if nat_le 140 (n.top - own) || nat_le 140 (own - n.lowest) then own else n.top - 140

-- the baseline of a name, with the names that are already placed
abbrev pub placed : (own : ℕ) → Option Names → ℕ
placed own None = own
placed own (Some n) = free_of own n

-- the placed names with one more at this baseline
abbrev pub with_name : (base : ℕ) → Option Names → Names
with_name base None = record { top = base; lowest = base }
with_name base (Some n) = record { top = min n.top base; lowest = max n.lowest base }

-- all lines, with the names that are already placed
abbrev pub lines_after : Plot → Option Names → List Limit → List ℕ
lines_after p names [] = []
lines_after p names (line ∷ rest) =
    line_text p (placed (base_of p line.at) names) line
    ++ lines_after p (Some (with_name (placed (base_of p line.at) names) names)) rest

-- all lines
abbrev pub lines_text : Plot → List Limit → List ℕ
lines_text p lines = lines_after p None lines
