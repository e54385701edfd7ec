-- The pictures of the levels of bucket and buffer: over the whole run, and with all frames or fields overlaid. Each has
-- the limits of the types that are judged by its level. This project's own format.
use Rattle.std.specs.Prelude.{ℕ, pos, ◌/◌, ◌^◌, min, nat_le, Bool, true, false, List, [], ◌∷◌, ◌++◌, codes}
use Rattle.std.specs.Prelude.{Option, Some, None}
use Rattle.std.specs.Fmt.{decimal, signed_decimal}
use Rattle.std.specs.List.{flat_map}
use Rattle.timing_base.specs.Media.{Media}
use Rattle.timing_base.specs.Verdicts.{Judged}
use Rattle.timing_base.specs.declared.media.Kind.{Kind}
use Rattle.timing_base.specs.declared.media.Kind.TheVariants.{N, NL, W}
use Rattle.timing_report.specs.Words.{group_name, kind_name}
use Rattle.flow_measure.specs.Columns.{strip_of, width_of}
use Rattle.flow_measure.specs.declared.columns.Extremes.{Extremes}
use Rattle.flow_measure.specs.declared.numbers.RunNumbers.{RunNumbers}
use Rattle.flow_measure.specs.declared.summary.Summary.{Summary}
use Rattle.flow_page.specs.chart.Charts.{curve_figure}
use Rattle.flow_page.specs.declared.chart.chart.Scene.{Scene}
use Rattle.flow_page.specs.declared.chart.grid.Unit.TheVariants.{Packets}
use Rattle.flow_page.specs.declared.chart.grid.UnitAcross.{UnitAcross}
use Rattle.flow_page.specs.declared.chart.grid.UnitAcross.TheVariants.{Packet, Place, FieldPlace}
use Rattle.flow_page.specs.declared.chart.lines.Limit.{Limit}
use Rattle.flow_page.specs.declared.chart.lines.LineName.{LineName}
use Rattle.flow_page.specs.declared.chart.lines.LineName.TheVariants.{Empty, Narrow, NarrowLinear, Wide}
use Rattle.flow_page.specs.declared.chart.plot.Across.{Across}
use Rattle.flow_page.specs.Peaks.{peak_text}
use Rattle.flow_page.specs.Words.{counted}
use Rattle.flow_page.specs.declared.levels.Level.{Level}
use Rattle.flow_page.specs.declared.levels.Level.TheVariants.{Bucket, Gapped, Linear}
use Rattle.flow_page.specs.declared.levels.LimitOn.{LimitOn}
use Rattle.flow_page.specs.declared.levels.View.{View}
use Rattle.flow_page.specs.declared.levels.View.TheVariants.{Eye, WholeRun}
use Rattle.flow_page.specs.declared.shown.Curves.{Curves}
use Rattle.flow_page.specs.declared.shown.ShownRun.{ShownRun}
use Rattle.flow_page.specs.declared.shown.TypeShown.{TypeShown}

-- the title of the picture over the whole run
abbrev pub run_title : Level → List ℕ
run_title Bucket = codes "Bucket over the capture"
run_title Gapped = codes "Receiver buffer over the capture, gapped reads (N)"
run_title Linear = codes "Receiver buffer over the capture, linear reads (NL, W)"

-- the level that a picture shows of all frames or fields overlaid
abbrev pub eye_name : Level → List ℕ
eye_name Bucket = codes "bucket"
eye_name Gapped = codes "buffer, gapped reads (N)"
eye_name Linear = codes "buffer, linear reads (NL, W)"

-- the title of the picture with all frames or fields overlaid
abbrev pub eye_title : (group : List ℕ) → Level → List ℕ
eye_title group level = codes "One " ++ (group ++ (codes ", all over each other: " ++ eye_name level))

-- the title of a picture
abbrev pub level_title : Media → View → Level → List ℕ
level_title m WholeRun level = run_title level
level_title m Eye level = eye_title (group_name m.interlaced) level

-- what a place of a picture is called
abbrev pub place_noun : View → List ℕ
place_noun WholeRun = codes "packet"
place_noun Eye = codes "place"

-- the summary of a level
abbrev pub level_summary : RunNumbers → Level → Summary
level_summary n Bucket = n.bucket
level_summary n Gapped = n.gapped.occupancy
level_summary n Linear = n.linear.occupancy

-- the columns over the whole run
abbrev pub run_columns : Curves → Level → List Extremes
run_columns c Bucket = c.bucket
run_columns c Gapped = c.gapped
run_columns c Linear = c.linear

-- the columns with all frames or fields overlaid
abbrev pub eye_columns : Curves → Level → List Extremes
eye_columns c Bucket = c.bucket_eye
eye_columns c Gapped = c.gapped_eye
eye_columns c Linear = c.linear_eye

-- the columns of a picture
abbrev pub level_columns : Curves → View → Level → List Extremes
level_columns c WholeRun level = run_columns c level
level_columns c Eye level = eye_columns c level

-- the limit of a type's bucket, and the first packet that exceeds it
abbrev pub bucket_limit : TypeShown → LimitOn
bucket_limit t = record { limit = t.c_max; first = t.first_bucket }

-- the limit of a type's buffer, and the first packet that exceeds it
abbrev pub buffer_limit : TypeShown → LimitOn
buffer_limit t = record { limit = t.vrx_full; first = t.first_over }

-- the limit of a type for the buffer by gapped reads: N alone has them
abbrev pub gapped_limit : TypeShown → Kind → Option LimitOn
gapped_limit t N = Some (buffer_limit t)
gapped_limit t NL = None
gapped_limit t W = None

-- the limit of a type for the buffer by linear reads: NL and W have them
abbrev pub linear_limit : TypeShown → Kind → Option LimitOn
linear_limit t N = None
linear_limit t NL = Some (buffer_limit t)
linear_limit t W = Some (buffer_limit t)

-- the limit of a type for a level, if the type is judged by that level
abbrev pub limit_on : Level → TypeShown → Option LimitOn
limit_on Bucket t = Some (bucket_limit t)
limit_on Gapped t = gapped_limit t t.kind
limit_on Linear t = linear_limit t t.kind

-- a limit of the buffer is drawn; that of W only if a fourth of it is reached, since it would flatten the curve
abbrev pub is_near_of : TypeShown → Kind → Bool
is_near_of t N = true
is_near_of t NL = true
is_near_of t W = nat_le (t.vrx_full / 4) t.buffer_peak

-- the limit of a type is drawn in the picture of this level
abbrev pub is_near : Level → TypeShown → Bool
is_near Bucket t = true
is_near Gapped t = true
is_near Linear t = is_near_of t t.kind

-- the name of a type's line
abbrev pub line_name : Kind → LineName
line_name N = Narrow
line_name NL = NarrowLinear
line_name W = Wide

-- the line of a limit, if there is one and it is drawn
abbrev pub line_if : (near : Bool) → Option LimitOn → Kind → List Limit
line_if false on kind = []
line_if true None kind = []
line_if true (Some on) kind = record { name = line_name kind; at = pos on.limit } ∷ []

-- the line of a type, if it has one
abbrev pub type_line : Level → TypeShown → List Limit
type_line level t = line_if (is_near level t) (limit_on level t) t.kind

-- the line of an empty buffer
abbrev pub base_lines : Level → List Limit
base_lines Bucket = []
base_lines Gapped = record { name = Empty; at = pos 0 } ∷ []
base_lines Linear = record { name = Empty; at = pos 0 } ∷ []

-- all lines
abbrev pub level_lines : Level → List TypeShown → List Limit
level_lines level types = base_lines level ++ flat_map (type_line level) types

-- the text on the first packet above a limit, if there is one
abbrev pub first_told : Option ℕ → List ℕ
first_told None = []
first_told (Some first) = codes ", above it first after packet " ++ decimal first

-- a limit in words, if there is one
abbrev pub limit_told : Kind → Option LimitOn → List ℕ
limit_told kind None = []
limit_told kind (Some on) =
    codes "; " ++ (kind_name kind ++ (codes " at most " ++ (decimal on.limit ++ first_told on.first)))

-- the limit of a type in words, if it has one
abbrev pub limit_words : Level → TypeShown → List ℕ
limit_words level t = limit_told t.kind (limit_on level t)

-- the least and the greatest level, with the place of the greatest
abbrev pub level_extremes : (noun : List ℕ) → Summary → Across → List Extremes → List ℕ
level_extremes noun s a columns =
    codes "least " ++ (signed_decimal s.least ++ (codes ", most " ++ (counted s.greatest (codes "packet")
    ++ peak_text noun a s.greatest columns)))

-- the packets or places per column
abbrev pub each_words : (each : ℕ) → List ℕ
each_words each = codes "; " ++ (decimal each ++ codes " to a mark")

-- both
abbrev pub level_words : (noun : List ℕ) → Summary → Across → List Extremes → List ℕ
level_words noun s a columns = level_extremes noun s a columns ++ each_words a.each

-- the text beside a picture
abbrev pub level_detail : View → Level → Summary → Across → List Extremes → List TypeShown → List ℕ
level_detail view level s a columns types =
    level_words (place_noun view) s a columns ++ flat_map (limit_words level) types

-- `count` packets, frames or fields side by side, in the columns of a curve
abbrev pub across_of : (count : ℕ) → Across
across_of count = record { start = 0; count = min count (2 ^ 60); each = width_of count 1000 }

-- the places of a frame or field side by side, in the columns of an eye
abbrev pub across_group : (n : ℕ) → Across
across_group n = record { start = 0; count = n; each = strip_of n 500 }

-- the scene of the whole run: all packets, with the ends of its frames or fields
abbrev pub run_scene : Judged → Scene
run_scene judged = record {
  wide = true;
  unit = Packets;
  along = Packet;
  across = across_of judged.packets;
  every = judged.n;
  shade = None;
}

-- the unit of the places of a frame or field
abbrev pub place_across : (interlaced : Bool) → UnitAcross
place_across false = Place
place_across true = FieldPlace

-- the scene of all frames or fields overlaid: the places of one
abbrev pub eye_scene : Media → Judged → Scene
eye_scene m judged = record {
  wide = false;
  unit = Packets;
  along = place_across m.interlaced;
  across = across_group judged.n;
  every = 0;
  shade = None;
}

-- the scene of a picture
abbrev pub level_scene : Media → Judged → View → Scene
level_scene m judged WholeRun = run_scene judged
level_scene m judged Eye = eye_scene m judged

-- the picture of a level
abbrev pub level_figure : Media → ShownRun → List TypeShown → View → Level → List ℕ
level_figure m s types view level =
    curve_figure (level_title m view level)
    (level_detail view level (level_summary s.run.numbers level) (level_scene m s.run.judged view).across
    (level_columns s.curves view level) types)
    (level_scene m s.run.judged view) (level_lines level types) (level_columns s.curves view level)

-- the pictures of all levels
abbrev pub level_figures : Media → ShownRun → List TypeShown → View → List ℕ
level_figures m s types view =
    level_figure m s types view Bucket ++ (level_figure m s types view Gapped ++ level_figure m s types view Linear)
