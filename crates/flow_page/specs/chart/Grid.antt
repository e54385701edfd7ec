-- The lines behind the numbers: a line for each tick of the axis, with its number, marks of places from left to right,
-- and lines at the ends of frames or fields. Nanoseconds are printed as milliseconds or microseconds if each tick is a
-- whole number of these.
use Rattle.std.specs.Prelude.{ℕ, ℤ, pos, ◌+◌, ◌-◌, ◌*◌, ◌/◌, ◌%◌, ◌==◌, nat_le, nat_lt, int_div, max}
use Rattle.std.specs.Prelude.{if◌then◌else◌, List, [], ◌++◌, codes}
use Rattle.std.specs.Fmt.{decimal, signed_decimal}
use Rattle.std.specs.Int.{div_ceil}
use Rattle.flow_page.specs.chart.Axes.{round_up, tick}
use Rattle.flow_page.specs.chart.Marks.{base_of, below, beside, bottom_of, right_of, tenths_text, x_of, y_of}
use Rattle.flow_page.specs.chart.Pieces.{upto}
use Rattle.flow_page.specs.declared.chart.axis.Axis.{Axis}
use Rattle.flow_page.specs.declared.chart.grid.Unit.{Unit}
use Rattle.flow_page.specs.declared.chart.grid.Unit.TheVariants.{Packets, Nanoseconds, Ticks}
use Rattle.flow_page.specs.declared.chart.grid.UnitAcross.{UnitAcross}
use Rattle.flow_page.specs.declared.chart.grid.UnitAcross.TheVariants.{Packet, Place, FieldPlace, Frame, Field}
use Rattle.flow_page.specs.declared.chart.grid.UnitAcross.TheVariants.{Bucket, Buffer, Gap}
use Rattle.flow_page.specs.declared.chart.plot.Across.{Across}
use Rattle.flow_page.specs.declared.chart.plot.Plot.{Plot}

-- the unit in which times are printed, in nanoseconds, for ticks `step` nanoseconds apart
abbrev pub scale_of_ns : ℕ → ℕ
scale_of_ns step = if step % 1000000 == 0 then 1000000 else if step % 1000 == 0 then 1000 else 1

-- how many of the numbers make one of the printed unit, for ticks `step` apart
abbrev pub scale_of : Unit → ℕ → ℕ
scale_of Packets step = 1
scale_of Nanoseconds step = scale_of_ns step
scale_of Ticks step = 1

-- the printed unit of times
abbrev pub ns_name : ℕ → List ℕ
ns_name step = if step % 1000000 == 0 then codes "ms" else if step % 1000 == 0 then codes "&#181;s" else codes "ns"

-- the printed unit of numbers
abbrev pub unit_name : Unit → ℕ → List ℕ
unit_name Packets step = codes "packets"
unit_name Nanoseconds step = ns_name step
unit_name Ticks step = codes "ticks of 90 kHz"

-- the printed unit of places
abbrev pub across_name : UnitAcross → List ℕ
across_name Packet = codes "judged packet"
across_name Place = codes "place in the frame"
across_name FieldPlace = codes "place in the field"
across_name Frame = codes "frame"
across_name Field = codes "field"
across_name Bucket = codes "packets in the bucket"
across_name Buffer = codes "packets in the buffer"
across_name Gap = codes "ns from packet to packet"

-- the printed number of a tick
unfoldable pub shown : Unit → Axis → ℕ → ℤ
shown unit a k = int_div (tick a k) (pos (scale_of unit a.step))

-- a line across the panel
unfoldable pub rule_piece : (left y right : ℕ) → List ℕ
rule_piece left y right =
    codes "<path class=\"ax\" d=\"M" ++ (tenths_text left ++ (codes " " ++ (tenths_text y ++ (codes "H"
    ++ (tenths_text right ++ codes "\"/>")))))

-- a number to the left of its line
unfoldable pub number_piece : (beside base : ℕ) → ℤ → List ℕ
number_piece beside base number =
    codes "<text x=\"" ++ (tenths_text beside ++ (codes "\" y=\"" ++ (tenths_text base
    ++ (codes "\" text-anchor=\"end\">" ++ (signed_decimal number ++ codes "</text>")))))

-- the line of a tick, with its number
abbrev pub grid_line : Plot → Unit → ℕ → List ℕ
grid_line p unit k =
    rule_piece p.panel.left (y_of p (tick p.axis k)) (right_of p.panel)
    ++ number_piece (beside p.panel) (base_of p (tick p.axis k)) (shown unit p.axis k)

-- the lines of all ticks, from the low end up
abbrev pub grid_text : Plot → Unit → List ℕ
grid_text p unit = upto (grid_line p unit) p.axis.steps ++ grid_line p unit p.axis.steps

-- the distance of two ticks from left to right, in places
unfoldable pub step_across : Across → ℕ
step_across a = round_up (div_ceil a.count 7)

-- the place of a tick, counted from the left end; ticks count from 0 at the first multiple of the step in the picture
unfoldable pub tick_across : Across → ℕ → ℕ
tick_across a k = (step_across a - a.start % step_across a) % step_across a + step_across a * k

-- the mark of a place below the panel, with its number
unfoldable pub mark_piece : (x bottom base number : ℕ) → List ℕ
mark_piece x bottom base number =
    codes "<path class=\"ax\" d=\"M" ++ (tenths_text x ++ (codes " " ++ (tenths_text bottom
    ++ (codes "v4\"/><text x=\"" ++ (tenths_text x ++ (codes "\" y=\"" ++ (tenths_text base
    ++ (codes "\" text-anchor=\"middle\">" ++ (decimal number ++ codes "</text>")))))))))

-- the mark of place `at`, with its number
abbrev pub mark_across : Plot → ℕ → List ℕ
mark_across p at = mark_piece (x_of p at) (bottom_of p.panel) (below p.panel 160) (p.across.start + at)

-- the mark of a tick, if it is within the picture
abbrev pub some_mark_across : Plot → ℕ → List ℕ
some_mark_across p k =
    if nat_le (tick_across p.across k) p.across.count then mark_across p (tick_across p.across k) else []

-- the marks of all ticks from left to right
abbrev pub marks_across : Plot → List ℕ
marks_across p = upto (some_mark_across p) 8

-- the units: that of the axis at the top, and that of the places below
unfoldable pub units_piece : List ℕ → (right base : ℕ) → List ℕ → List ℕ
units_piece up right base along =
    codes "<text x=\"0\" y=\"12\">" ++ (up ++ (codes "</text><text x=\"" ++ (tenths_text right
    ++ (codes "\" y=\"" ++ (tenths_text base ++ (codes "\" text-anchor=\"end\">" ++ (along ++ codes "</text>")))))))

-- the units of a plot
abbrev pub units_text : Plot → Unit → UnitAcross → List ℕ
units_text p unit across =
    units_piece (unit_name unit p.axis.step) (right_of p.panel) (below p.panel 310) (across_name across)

-- the line at the end of frame or field k, from 0, of `every` packets
abbrev pub frame_rule : Plot → ℕ → ℕ → List ℕ
frame_rule p every k =
    codes "<path class=\"fr\" d=\"M" ++ (tenths_text (x_of p (every * (k + 1))) ++ (codes " "
    ++ (tenths_text p.panel.top ++ (codes "V" ++ (tenths_text (bottom_of p.panel) ++ codes "\"/>")))))

-- the lines at the ends of all frames or fields, if these are at least four SVG units wide
abbrev pub frame_rules : Plot → ℕ → List ℕ
frame_rules p every =
    if nat_lt (p.panel.width * every) (max 1 (40 * p.across.count)) then []
    else upto (frame_rule p every) ((p.across.count - 1) / max 1 every)
