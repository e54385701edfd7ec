-- Histograms as pictures: of the packets in bucket and buffer for each type, and of the times between packets. This
-- project's own format.
use Rattle.std.specs.Prelude.{ℕ, ℤ, pos, ◌+◌, ◌*◌, ◌^◌, ◌==◌, nat_lt, if◌then◌else◌, Bool, true, false}
use Rattle.std.specs.Prelude.{List, [], ◌∷◌, ◌++◌, codes, Option, Some, None}
use Rattle.std.specs.Fmt.{decimal, signed_decimal}
use Rattle.timing_base.specs.declared.media.Kind.{Kind}
use Rattle.timing_base.specs.declared.media.Kind.TheVariants.{N, NL, W}
use Rattle.timing_report.specs.Words.{kind_name}
use Rattle.flow_measure.specs.Told.{bin_counts, class_counts}
use Rattle.flow_measure.specs.declared.bins.Bins.{Bins}
use Rattle.flow_measure.specs.declared.numbers.Gaps.{Gaps}
use Rattle.flow_measure.specs.declared.numbers.KindNumbers.{KindNumbers}
use Rattle.flow_measure.specs.declared.numbers.RunNumbers.{RunNumbers}
use Rattle.flow_measure.specs.declared.summary.Summary.{Summary}
use Rattle.flow_page.specs.chart.Charts.{bars_figure}
use Rattle.flow_page.specs.declared.chart.bars.Bar.{Bar}
use Rattle.flow_page.specs.declared.chart.bars.BarName.TheVariants.{Below, From, Above}
use Rattle.flow_page.specs.declared.chart.grid.UnitAcross.{UnitAcross}
use Rattle.flow_page.specs.declared.chart.grid.UnitAcross.TheVariants as across
use Rattle.flow_page.specs.Shown.{kind_at}
use Rattle.flow_page.specs.Words.{counted}

-- the bars of bins from bin k on
abbrev pub width_bars : (width k : ℕ) → List ℕ → List Bar
width_bars width k [] = []
width_bars width k (count ∷ counts) =
    record { name = From (k * width); count = count } ∷ width_bars width (k + 1) counts

-- the bar of the numbers below 0, if there can be any
abbrev pub below_bars : Bool → ℕ → List Bar
below_bars true below = record { name = Below; count = below } ∷ []
below_bars false below = []

-- all bars of bins
abbrev pub bins_bars : Bins → (signed : Bool) → List Bar
bins_bars b signed =
    below_bars signed b.below
    ++ (width_bars b.width 0 (bin_counts b) ++ record { name = Above b.limit; count = b.above } ∷ [])

-- the first number of the next class: 1 after 0, and twice the first number of this class otherwise
abbrev pub next_class : ℕ → ℕ
next_class first = if first == 0 then 1 else if nat_lt first (2 ^ 100) then 2 * first else first

-- the bars of classes, the first of which begins at `first`
abbrev pub class_bars : (first : ℕ) → List ℕ → List Bar
class_bars first [] = []
class_bars first (count ∷ counts) =
    record { name = From first; count = count } ∷ class_bars (next_class first) counts

-- the title of the histogram of a type's bucket or buffer
abbrev pub often_title : (what : List ℕ) → Kind → List ℕ
often_title what kind = codes "How often: " ++ (what ++ (codes ", " ++ kind_name kind))

-- the text on how many of all packets are above the limit
unfoldable pub above_of : (above seen : ℕ) → List ℕ
above_of above seen =
    decimal above ++ (codes " of " ++ (counted (pos seen) (codes "packet") ++ codes " above"))

-- the text on the first packet above the limit, if there is one
abbrev pub first_above : Option ℕ → List ℕ
first_above None = []
first_above (Some first) = codes ", first after packet " ++ decimal first

-- the text on how many numbers are below 0, if there can be any
abbrev pub below_text : (signed : Bool) → (below : ℕ) → List ℕ
below_text true below = codes ", " ++ (decimal below ++ codes " below 0")
below_text false below = []

-- the text beside a histogram: the greatest number, the limit, and the packets beyond it
abbrev pub often_detail : Summary → (first : Option ℕ) → (signed : Bool) → Bins → List ℕ
often_detail s first signed b =
    codes "most " ++ (signed_decimal s.greatest ++ (codes ", limit " ++ (decimal b.limit ++ (codes "; "
    ++ (above_of b.above b.seen ++ (first_above first ++ below_text signed b.below))))))

-- the histogram of a type's bucket or buffer
abbrev pub often_figure : (what : List ℕ) → Kind → UnitAcross → (signed : Bool) → Summary → (first : Option ℕ)
    → Bins → List ℕ
often_figure what kind along signed s first b =
    bars_figure (often_title what kind) (often_detail s first signed b) along b.seen (bins_bars b signed)

-- the occupancy of the buffer by the reads of a type: those of N are gapped, those of NL and W linear
abbrev pub held_in : RunNumbers → Kind → Summary
held_in numbers N = numbers.gapped.occupancy
held_in numbers NL = numbers.linear.occupancy
held_in numbers W = numbers.linear.occupancy

-- the two histograms of a type
unfoldable pub often_kind : RunNumbers → Kind → KindNumbers → List ℕ
often_kind numbers kind k =
    often_figure (codes "bucket") kind across.Bucket false numbers.bucket k.first_bucket k.bucket
    ++ often_figure (codes "buffer") kind across.Buffer true (held_in numbers kind) k.first_over k.buffer

-- the histograms of the types from a place on
abbrev pub often_from : RunNumbers → (place : ℕ) → List KindNumbers → List ℕ
often_from numbers place [] = []
often_from numbers place (k ∷ ks) =
    often_kind numbers (kind_at place) k ++ often_from numbers (place + 1) ks

-- the text beside the histogram of the times between packets
abbrev pub gap_detail : Summary → List ℕ
gap_detail s =
    codes "least " ++ (signed_decimal s.least ++ (codes ", most " ++ (signed_decimal s.greatest
    ++ codes " ns; each bar goes up to the double of where it begins")))

-- the histogram of the times between packets
abbrev pub gaps_figure : Gaps → List ℕ
gaps_figure g =
    bars_figure (codes "Time from packet to packet") (gap_detail g.summary) across.Gap g.classes.seen
    (class_bars 0 (class_counts g.classes))

-- the histogram of the times between packets, if there are two packets
abbrev pub gap_figure : Option Gaps → List ℕ
gap_figure None = []
gap_figure (Some g) = gaps_figure g
