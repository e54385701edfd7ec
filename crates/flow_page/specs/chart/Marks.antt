-- The places of numbers in a picture. Places are tenths of an SVG unit, rounded down. x grows to the right, and y
-- downward, as in SVG. This project's own format.
use Rattle.std.specs.Prelude.{ℕ, ℤ, pos, ◌+ℤ◌, ◌-ℤ◌, ◌+◌, ◌-◌, ◌*◌, ◌/◌, ◌%◌, ◌==◌, min, max, int_lt}
use Rattle.std.specs.Prelude.{unsigned_abs, if◌then◌else◌, List, ◌++◌, codes}
use Rattle.std.specs.Fmt.{decimal}
use Rattle.flow_page.specs.declared.chart.axis.Axis.{Axis}
use Rattle.flow_page.specs.declared.chart.plot.Panel.{Panel}
use Rattle.flow_page.specs.declared.chart.plot.Plot.{Plot}
use Rattle.flow_page.specs.declared.chart.plot.Tenths.{Tenths}

-- tenths in decimal: `12`, `12.3`
unfoldable pub tenths_text : ℕ → List ℕ
tenths_text t = if t % 10 == 0 then decimal (t / 10) else decimal (t / 10) ++ (codes "." ++ decimal (t % 10))

-- a length of t tenths of an SVG unit
abbrev pub tenths : ℕ → Tenths
tenths t = record { tenths = t }

-- the distance from the low end of an axis to its high end
abbrev pub span : Axis → ℕ
span a = a.step * a.steps

-- the number at the high end
abbrev pub high : Axis → ℤ
high a = a.low +ℤ pos (span a)

-- the distance of a number from the low end: 0 if it is below the low end, and the span if it is above the high end
abbrev pub rise : Axis → ℤ → ℕ
rise a x = if int_lt x a.low then 0 else min (unsigned_abs (x -ℤ a.low)) (span a)

-- the y of a number in a picture of this height: 0 is the high end, and `height` the low end
unfoldable pub mark : (height : ℕ) → Axis → ℤ → ℕ
mark height a x = height * (span a - rise a x) / max 1 (span a)

-- the x of place `at` of `count` places in a picture of this width: 0 is the left end of the first place, and `width`
-- the right end of the last one
unfoldable pub place : (width count : ℕ) → ℕ → ℕ
place width count at = width * min at count / max 1 count

-- the y of a number in a panel
unfoldable pub y_of : Plot → ℤ → ℕ
y_of p x = p.panel.top + mark p.panel.height p.axis x

-- the x of a place in a panel
unfoldable pub x_of : Plot → ℕ → ℕ
x_of p at = p.panel.left + place p.panel.width p.across.count at

-- the x of the left end of a column, which is the right end of the column before it
unfoldable pub edge : Plot → ℕ → ℕ
edge p column = x_of p (column * p.across.each)

-- the x of the right end of a panel
unfoldable pub right_of : Panel → ℕ
right_of p = p.left + p.width

-- the y of the bottom of a panel
unfoldable pub bottom_of : Panel → ℕ
bottom_of p = p.top + p.height

-- the baseline of a number to the left of its line
unfoldable pub base_of : Plot → ℤ → ℕ
base_of p x = p.panel.top + mark p.panel.height p.axis x + 40

-- the x at which the numbers of the axis end
unfoldable pub beside : Panel → ℕ
beside p = p.left - 60

-- the baseline of a label above a number
unfoldable pub above : Plot → ℤ → ℕ
above p x = p.panel.top + mark p.panel.height p.axis x - 40

-- the x at which the name of a line begins, to the right of the line
unfoldable pub name_x : Panel → ℕ
name_x p = p.left + p.width + 60

-- the y at `by` tenths of an SVG unit below a panel
unfoldable pub below : Panel → ℕ → ℕ
below p by = p.top + p.height + by
