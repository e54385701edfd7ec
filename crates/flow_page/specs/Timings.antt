-- The pictures of the times of packets and of the RTP timestamps per frame or field, and the line on RTP timestamps
-- with other steps than the rate of the SDP gives. This project's own format.
use Rattle.std.specs.Prelude.{ℕ, ℤ, pos, ◌-◌, ◌*◌, ◌/◌, ◌^◌, ◌&&◌, min, max, nat_lt, int_lt, unsigned_abs, Bool}
use Rattle.std.specs.Prelude.{true, false, ◌||◌, if◌then◌else◌, List, [], ◌∷◌, ◌++◌, codes, Option, Some, None}
use Rattle.std.specs.Fmt.{decimal, signed_decimal}
use Rattle.std.specs.Int.{div_ceil}
use Rattle.timing_base.specs.Media.{Media}
use Rattle.timing_base.specs.Verdicts.{Judged}
use Rattle.timing_report.specs.Words.{group_name}
use Rattle.sender_params.specs.Times.{group_time, groups_of}
use Rattle.flow_measure.specs.Columns.{column_at}
use Rattle.flow_measure.specs.Slope.{last_full, scatter_of, slope_of}
use Rattle.flow_measure.specs.declared.columns.Extremes.{Extremes}
use Rattle.flow_measure.specs.declared.columns.slope.Slope.{Slope}
use Rattle.flow_measure.specs.declared.numbers.RunNumbers.{RunNumbers}
use Rattle.flow_measure.specs.declared.summary.Summary.{Summary}
use Rattle.flow_page.specs.chart.Charts.{curve_axis, curve_figure}
use Rattle.flow_page.specs.chart.Grid.{ns_name}
use Rattle.flow_page.specs.chart.Marks.{tenths_text}
use Rattle.flow_page.specs.declared.chart.chart.Scene.{Scene}
use Rattle.flow_page.specs.declared.chart.grid.Unit.{Unit}
use Rattle.flow_page.specs.declared.chart.grid.Unit.TheVariants.{Nanoseconds, Ticks}
use Rattle.flow_page.specs.declared.chart.grid.UnitAcross.{UnitAcross}
use Rattle.flow_page.specs.declared.chart.grid.UnitAcross.TheVariants.{Frame, Field}
use Rattle.flow_page.specs.declared.chart.lines.Limit.{Limit}
use Rattle.flow_page.specs.declared.chart.lines.LineName.TheVariants as line
use Rattle.flow_page.specs.Levels.{across_of}
use Rattle.flow_page.specs.Peaks.{peak_text}
use Rattle.flow_page.specs.Times.{micro_text, thousandths_text, time_number, time_text}
use Rattle.flow_page.specs.Words.{counted}
use Rattle.flow_page.specs.declared.shown.Curves.{Curves}
use Rattle.flow_page.specs.declared.shown.ShownRun.{ShownRun}
use Rattle.flow_page.specs.declared.timings.Timing.{Timing}
use Rattle.flow_page.specs.declared.timings.Timing.TheVariants.{First, Last, Offset, Latency}

-- the title of a picture; `group` is "frame" or "field"
abbrev pub timing_title : (group : List ℕ) → Timing → List ℕ
timing_title group First = codes "First packet of each " ++ group
timing_title group Last = codes "Last packet of each " ++ group
timing_title group Offset = codes "RTP timestamp of each " ++ (group ++ codes ", after it begins")
timing_title group Latency = codes "From the RTP timestamp of each " ++ (group ++ codes " to its first packet")

-- the summary of a quantity
abbrev pub timing_summary : RunNumbers → Timing → Summary
timing_summary n First = n.first
timing_summary n Last = n.last
timing_summary n Offset = n.offset
timing_summary n Latency = n.latency

-- the columns of a quantity
abbrev pub timing_columns : Curves → Timing → List Extremes
timing_columns c First = c.first
timing_columns c Last = c.last
timing_columns c Offset = c.offset
timing_columns c Latency = c.latency

-- the unit of a quantity
abbrev pub timing_unit : Timing → Unit
timing_unit First = Nanoseconds
timing_unit Last = Nanoseconds
timing_unit Offset = Ticks
timing_unit Latency = Ticks

-- a number of a picture with ticks `step` apart
abbrev pub timing_number : (step : ℕ) → Timing → ℤ → List ℕ
timing_number step First x = time_number step x
timing_number step Last x = time_number step x
timing_number step Offset x = signed_decimal x
timing_number step Latency x = signed_decimal x

-- a number with its unit
abbrev pub timing_words : (group : List ℕ) → (step : ℕ) → Timing → ℤ → List ℕ
timing_words group step First most = time_text step most ++ (codes " after the " ++ (group ++ codes " begins"))
timing_words group step Last most = time_text step most ++ (codes " after the " ++ (group ++ codes " begins"))
timing_words group step Offset most = counted most (codes "tick") ++ codes " of 90 kHz"
timing_words group step Latency most = counted most (codes "tick") ++ codes " of 90 kHz"

-- T_GROUP in nanoseconds, rounded down
abbrev pub period_of : Media → ℕ
period_of m = (group_time m).0 / (group_time m).1

-- the lines of a picture: TR_OFFSET, or the end of a frame or field
abbrev pub timing_lines : (target period : ℕ) → Timing → List Limit
timing_lines target period First = record { name = line.Offset; at = pos target } ∷ []
timing_lines target period Last = record { name = line.Period; at = pos period } ∷ []
timing_lines target period Offset = []
timing_lines target period Latency = []

-- the line of a picture in words
abbrev pub line_words : (step target period : ℕ) → Timing → List ℕ
line_words step target period First = codes "; TR_OFFSET " ++ time_text step (pos target)
line_words step target period Last = codes "; T_GROUP " ++ time_text step (pos period)
line_words step target period Offset = []
line_words step target period Latency = []

-- a slope of times, in nanoseconds, against the frames or fields over which they rise or fall, each of which lasts this
-- many nanoseconds (numerator and denominator): in tenths of a ppm, rounded toward zero. A change above 2^64 ns counts
-- as 2^64 ns
unfoldable pub drift_tenths : (period : ℕ × ℕ) → Slope → ℕ
drift_tenths period s = min s.by (2 ^ 64) * 10000000 * period.1 / max 1 (s.over * period.0)

-- a minus sign for a drift that falls and isn't 0
abbrev pub drift_minus : (falls : Bool) → (tenths : ℕ) → List ℕ
drift_minus falls tenths = if falls && nat_lt 0 tenths then codes "-" else []

-- a drift in words
unfoldable pub ppm_text : (falls : Bool) → (tenths : ℕ) → List ℕ
ppm_text falls tenths = codes "; drift " ++ (drift_minus falls tenths ++ (tenths_text tenths ++ codes " ppm"))

-- a slope in words; if there is none, the scatter that none exceeds
abbrev pub slope_text : (period : ℕ × ℕ) → (scatter : ℕ) → Option Slope → List ℕ
slope_text period scatter None =
    codes "; no drift above the scatter of " ++ (micro_text scatter ++ codes " &#181;s")
slope_text period scatter (Some s) = ppm_text s.falls (drift_tenths period s)

-- the greater scatter of the first and the last full of at most eight columns
abbrev pub scatter_in : (groups : ℕ) → List Extremes → ℕ
scatter_in groups columns =
    max (scatter_of (column_at columns 0)) (scatter_of (column_at columns (last_full groups 8)))

-- the text on the drift of the first packets of eight frames or fields or more, from their curve in at most eight
-- columns
abbrev pub drift_text : Media → (groups : ℕ) → List Extremes → List ℕ
drift_text m groups columns =
    if nat_lt groups 8 then []
    else slope_text (group_time m) (scatter_in groups columns) (slope_of groups 8 columns)

-- the text on the drift, if the picture is of first packets: these drift with the sender's clock
abbrev pub timing_drift : Media → Timing → (groups : ℕ) → List Extremes → List ℕ
timing_drift m First groups columns = drift_text m groups columns
timing_drift m Last groups columns = []
timing_drift m Offset groups columns = []
timing_drift m Latency groups columns = []

-- the least and the greatest number, with the place of the greatest
abbrev pub timing_extremes : (group : List ℕ) → (step : ℕ) → Timing → (groups : ℕ) → Summary → List Extremes → List ℕ
timing_extremes group step timing groups s columns =
    codes "least " ++ (timing_number step timing s.least ++ (codes ", most " ++ (timing_words group step timing
    s.greatest ++ peak_text group (across_of groups) s.greatest columns)))

-- the ticks of the axis of a picture are this far apart
abbrev pub timing_step : (period : ℕ) → ShownRun → Timing → ℕ
timing_step period s timing =
    (curve_axis (timing_lines s.run.numbers.target period timing) (timing_columns s.curves timing)).step

-- the text beside a picture with ticks `step` apart
abbrev pub detail_at : Media → (step period : ℕ) → ShownRun → Timing → List ℕ
detail_at m step period s timing =
    timing_extremes (group_name m.interlaced) step timing s.run.judged.frames
    (timing_summary s.run.numbers timing) (timing_columns s.curves timing)
    ++ (line_words step s.run.numbers.target period timing
    ++ timing_drift m timing s.run.judged.frames s.curves.drift)

-- the text beside a picture
abbrev pub timing_detail : Media → (period : ℕ) → ShownRun → Timing → List ℕ
timing_detail m period s timing = detail_at m (timing_step period s timing) period s timing

-- the unit of frames or fields side by side
abbrev pub group_across : (interlaced : Bool) → UnitAcross
group_across false = Frame
group_across true = Field

-- the scene of a picture
abbrev pub timing_scene : Media → Judged → Timing → Scene
timing_scene m judged timing = record {
  wide = false;
  unit = timing_unit timing;
  along = group_across m.interlaced;
  across = across_of judged.frames;
  every = 0;
  shade = None;
}

-- a picture
abbrev pub timing_figure : Media → (period : ℕ) → ShownRun → Timing → List ℕ
timing_figure m period s timing =
    curve_figure (timing_title (group_name m.interlaced) timing) (timing_detail m period s timing)
    (timing_scene m s.run.judged timing) (timing_lines s.run.numbers.target period timing)
    (timing_columns s.curves timing)

-- all pictures
abbrev pub timing_figures : Media → (period : ℕ) → ShownRun → List ℕ
timing_figures m period s =
    timing_figure m period s First
    ++ (timing_figure m period s Last ++ (timing_figure m period s Offset ++ timing_figure m period s Latency))

-- the ticks of 90 kHz from one frame or field to the next, rounded down
abbrev pub least_step : Media → ℕ
least_step m = 90000 * m.q / max 1 (m.p * groups_of m)

-- the ticks of 90 kHz from one frame or field to the next, rounded up
abbrev pub most_step : Media → ℕ
most_step m = div_ceil (90000 * m.q) (max 1 (m.p * groups_of m))

-- a step of the RTP timestamp is outside `least` to `most`
abbrev pub misfits : (least most : ℕ) → Summary → Bool
misfits least most s = int_lt s.least (pos least) || int_lt (pos most) s.greatest

-- the frame rate that steps make, in thousandths of a frame per second, rounded down: `steps` steps of `ticks` ticks of
-- 90 kHz in all, each from one of the `per_frame` frames or fields of a frame to the next
unfoldable pub rate_of : (per_frame steps ticks : ℕ) → ℕ
rate_of per_frame steps ticks = 90000000 * steps / per_frame / max 1 ticks

-- the text on the measured steps of the RTP timestamp, and on the frame rate that these make
unfoldable pub steps_seen : (group : List ℕ) → (rate : ℕ) → Summary → List ℕ
steps_seen group rate s =
    codes "<p class=\"fail\">&#10007; The RTP timestamp goes on by " ++ (signed_decimal s.least ++ (codes " to "
    ++ (signed_decimal s.greatest ++ (codes " ticks from " ++ (group ++ (codes " to " ++ (group
    ++ (codes ", which makes " ++ (thousandths_text rate ++ codes " frames per second,")))))))))

-- the text on the frame rate and the steps of the SDP
unfoldable pub wanted_text : (p q least most : ℕ) → List ℕ
wanted_text p q least most =
    codes " where the description's rate of " ++ (decimal p ++ (codes "/" ++ (decimal q ++ (codes " makes "
    ++ (thousandths_text (1000 * p / max 1 q) ++ (codes " frames per second, by " ++ (decimal least ++ (codes " to "
    ++ (decimal most ++ codes " ticks.</p>\n")))))))))

-- the text on the steps that the rate of the SDP gives
abbrev pub steps_wanted : Media → List ℕ
steps_wanted m = wanted_text m.p m.q (least_step m) (most_step m)

-- the line on the measured and the expected steps, of this many frames or fields
abbrev pub steps_words : Media → (groups : ℕ) → Summary → List ℕ
steps_words m groups s =
    steps_seen (group_name m.interlaced) (rate_of (groups_of m) (groups - 1) (unsigned_abs s.sum)) s
    ++ steps_wanted m

-- that line, if the steps differ
abbrev pub steps_line : Media → (groups : ℕ) → Option Summary → List ℕ
steps_line m groups None = []
steps_line m groups (Some s) =
    if misfits (least_step m) (most_step m) s then steps_words m groups s else []
