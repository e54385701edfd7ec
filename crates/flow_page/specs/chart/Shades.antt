-- Shaded places of a picture, with the numbers of the first and the last of them. This project's own format.
use Rattle.std.specs.Prelude.{ℕ, ◌+◌, ◌-◌, ◌*◌, max, nat_lt, if◌then◌else◌, List, [], ◌++◌, codes, length}
use Rattle.std.specs.Prelude.{Option, Some, None}
use Rattle.std.specs.Fmt.{decimal}
use Rattle.flow_page.specs.chart.Grid.{unit_name}
use Rattle.flow_page.specs.chart.Marks.{bottom_of, right_of, tenths_text, x_of}
use Rattle.flow_page.specs.declared.chart.grid.Unit.{Unit}
use Rattle.flow_page.specs.declared.chart.plot.Plot.{Plot}
use Rattle.flow_page.specs.declared.chart.shade.Shade.{Shade}

-- the shaded area, from the left end of the first place to the right end of the last one
unfoldable pub shade_piece : (left top bottom right : ℕ) → List ℕ
shade_piece left top bottom right =
    codes "<path class=\"hit\" d=\"M" ++ (tenths_text left ++ (codes " " ++ (tenths_text top ++ (codes "V"
    ++ (tenths_text bottom ++ (codes "H" ++ (tenths_text right ++ (codes "V" ++ (tenths_text top
    ++ codes "Z\"/>")))))))))

-- the numbers of the first and the last shaded place
unfoldable pub shade_name : (x base : ℕ) → (anchor : List ℕ) → (first last : ℕ) → List ℕ
shade_name x base anchor first last =
    codes "<text class=\"lim\" x=\"" ++ (tenths_text x ++ (codes "\" y=\"" ++ (tenths_text base
    ++ (codes "\" text-anchor=\"" ++ (anchor ++ (codes "\">from " ++ (decimal first ++ (codes " to " ++ (decimal last
    ++ codes "</text>")))))))))

-- the x at which the shaded places begin
unfoldable pub shade_left : Plot → Shade → ℕ
shade_left p s = x_of p s.from

-- the x at which the shaded places end
unfoldable pub shade_right : Plot → Shade → ℕ
shade_right p s = x_of p (s.to + 1)

-- the x after the unit of the axis, with at most 7.8 units per character
unfoldable pub behind_unit : Plot → Unit → ℕ
behind_unit p unit = 78 * length (unit_name unit p.axis.step) + 60

-- the numbers of the shaded places, above the panel. In the left half they begin with the shaded places, or after the
-- unit of the axis, and in the right half they end with the shaded places
unfoldable pub shade_named : Plot → Unit → Shade → List ℕ
shade_named p unit s =
    if nat_lt (shade_left p s - p.panel.left) (right_of p.panel - shade_left p s)
    then shade_name (max (behind_unit p unit) (shade_left p s)) (p.panel.top - 40) (codes "start")
    (p.across.start + s.from) (p.across.start + s.to)
    else shade_name (shade_right p s) (p.panel.top - 40) (codes "end") (p.across.start + s.from)
    (p.across.start + s.to)

-- the shaded places, if there are any
abbrev pub shade_text : Plot → Unit → Option Shade → List ℕ
shade_text p unit None = []
shade_text p unit (Some s) =
    shade_piece (shade_left p s) p.panel.top (bottom_of p.panel) (shade_right p s) ++ shade_named p unit s
