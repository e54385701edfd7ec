-- The numbers of a judged run are one.
use mathlib.Core.HLevel.{is_prop→PathP}
use Rattle.std.specs.Prelude.{MatchOption, sum}
use Rattle.std.specs.List.{slice_index_or}
use Rattle.std.proofs.Common.{◌≡◌, ◌≤◌, ◌<◌, ◌-◌, ◌+◌, ◌^◌, ℕ, ℤ, true, false, List, [], ◌∷◌, length, slice_index, Option, Some, None}
use Rattle.std.proofs.Common.{refl, ap, ap₂, ◌∙◌, sym, arith}
use Rattle.std.proofs.Props.{props}
use Rattle.std.proofs.lemmas.List.{ext_get_or, length-take-le}
use Rattle.timing_base.specs.Shifts.{FlowOptions, Shift}
use Rattle.timing_base.specs.Media.{Media}
use Rattle.timing_base.specs.Numbered.{numbered}
use Rattle.timing_base.specs.declared.media.Kind.{Kind}
use Rattle.timing_base.specs.declared.media.Kind.TheVariants.{N, NL, W}
use Rattle.timing_base.specs.declared.packet.FlowPacket.{FlowPacket}
use Rattle.sender_params.specs.Limits.{c_max_of, gapped_of, vrx_full_of}
use Rattle.offset_window.proofs.Unique.{window-once}
use Rattle.flow_measure.specs.Bins.{bin_width, in_bin}
use Rattle.flow_measure.specs.Classes.{in_class}
use Rattle.flow_measure.specs.Gaps.{AreClassesOf, AreGapsOf, gap_after}
use Rattle.flow_measure.specs.Groups.{firsts_of, lasts_of, latency_at, offset_at, since_at, step_after}
use Rattle.flow_measure.specs.Kinds.{AreBinsOf}
use Rattle.flow_measure.specs.Occupancy.{AreOccupancies, buckets_of}
use Rattle.flow_measure.specs.Run.{AreKinds, IsKind, IsMeasured, anchor_in, packets_of}
use Rattle.flow_measure.specs.Told.{class_counts}
use Rattle.flow_measure.specs.declared.bins.Bins.{Bins}
use Rattle.flow_measure.specs.declared.classes.Classes.{Classes}
use Rattle.flow_measure.specs.declared.numbers.Gaps.{Gaps}
use Rattle.flow_measure.specs.declared.numbers.KindNumbers.{KindNumbers}
use Rattle.flow_measure.specs.declared.numbers.MeasuredFlow.{MeasuredFlow}
use Rattle.flow_measure.specs.declared.numbers.MeasuredRun.{MeasuredRun}
use Rattle.flow_measure.specs.declared.numbers.RunNumbers.{RunNumbers}
use Rattle.flow_measure.proofs.Alone.{bins-tell, classes-tell}
use Rattle.flow_measure.proofs.Measured.{buffer-once, first-once, kind-same, option-once}
use Rattle.flow_measure.proofs.Unique.{summary-once}
use Rattle.run_meter.specs.Runs.{JudgedPart}
use Rattle.fail_interval.specs.Parts.{judged_parts}
use Rattle.flow_measure.specs.Measured.{AreMeasured, HasNumbers, IsMeasuredRun}
use Rattle.timing_measure.specs.Measured.{IsMeasuredFlow}

-- bins with the same fields are one, as a fact about them has one proof
bins-one : (b c : Bins) → b.limit ≡ c.limit → b.width ≡ c.width → b.counts ≡ c.counts → b.above ≡ c.above → b.below ≡ c.below → b.seen ≡ c.seen → b ≡ c
bins-one b c limit width counts above below seen = λ i. record {
  limit = limit i;
  width = width i;
  counts = counts i;
  above = above i;
  below = below i;
  seen = seen i;
  width_is = is_prop→PathP (λ j. width j ≡ bin_width (limit j)) (λ j. hlevel props) b.width_is c.width_is i;
  few = is_prop→PathP (λ j. seen j ≤ 2 ^ 41) (λ j. hlevel props) b.few c.few i;
  all_counted = is_prop→PathP (λ j. sum (counts j) + above j + below j ≡ seen j) (λ j. hlevel props) b.all_counted c.all_counted i;
  whole = is_prop→PathP (λ j. length (counts j) ≡ 64) (λ j. hlevel props) b.whole c.whole i;
}

classes-one : (c d : Classes) → c.counts ≡ d.counts → c.length ≡ d.length → c.seen ≡ d.seen → c ≡ d
classes-one c d counts long seen = λ i. record {
  counts = counts i;
  length = long i;
  seen = seen i;
  within = is_prop→PathP (λ j. long j ≤ 64) (λ j. hlevel props) c.within d.within i;
  few = is_prop→PathP (λ j. seen j ≤ 2 ^ 41) (λ j. hlevel props) c.few d.few i;
  all_counted = is_prop→PathP (λ j. sum (counts j) ≡ seen j) (λ j. hlevel props) c.all_counted d.all_counted i;
  whole = is_prop→PathP (λ j. length (counts j) ≡ 64) (λ j. hlevel props) c.whole d.whole i;
}

-- the same numbers fill one array of bins, and one of classes
bin-is : (limit count : ℕ) (numbers : ℕ → ℤ) (b : Bins) (bin : ℕ) → bin < 64 → AreBinsOf limit numbers count b
    → slice_index b.counts bin ≡ in_bin limit bin numbers count
bin-is limit count numbers b bin few h = h.counts.each bin few ∙ ap₂ (λ l n. in_bin l bin numbers n) h.limit_is h.seen

bins-same : (limit count : ℕ) (numbers : ℕ → ℤ) (b c : Bins) → AreBinsOf limit numbers count b → AreBinsOf limit numbers count c → b ≡ c
bins-same limit count numbers b c h k =
    let tell = bins-tell limit count numbers b c h k in
    let counts : b.counts ≡ c.counts =
    ext_get_or 0 b.counts c.counts (b.whole ∙ sym c.whole)
    (λ bin few.
    let within : bin < 64 = omega (arith, few, b.whole) in
    bin-is limit count numbers b bin within h ∙ sym (bin-is limit count numbers c bin within k)) in
    bins-one b c tell.limit tell.width counts tell.above tell.below (h.seen ∙ sym k.seen)

class-is : (numbers : ℕ → ℕ) (count : ℕ) (c : Classes) (class : ℕ) → class < 64 → AreClassesOf numbers count c
    → slice_index c.counts class ≡ in_class class numbers count
class-is numbers count c class few h = h.counts.each class few ∙ ap (in_class class numbers) h.seen

class-length : (c : Classes) → length (class_counts c) ≡ c.length
class-length c = length-take-le c.length c.counts (omega (arith, c.within, c.whole))

classes-same : (numbers : ℕ → ℕ) (count : ℕ) (c d : Classes) → AreClassesOf numbers count c → AreClassesOf numbers count d → c ≡ d
classes-same numbers count c d h k =
    let counts : c.counts ≡ d.counts =
    ext_get_or 0 c.counts d.counts (c.whole ∙ sym d.whole)
    (λ class few.
    let within : class < 64 = omega (arith, few, c.whole) in
    class-is numbers count c class within h ∙ sym (class-is numbers count d class within k)) in
    let long : c.length ≡ d.length = sym (class-length c) ∙ ap length (classes-tell numbers count c d h k) ∙ class-length d in
    classes-one c d counts long (h.seen ∙ sym k.seen)

-- those of a type
kind-once : (m : Media) (n groups : ℕ) (stamps records : List ℕ) (occupancy others : ℕ → ℤ) (kind : Kind) (named : Option ℕ) (k other : KindNumbers)
    → AreOccupancies m n stamps (gapped_of kind) occupancy → AreOccupancies m n stamps (gapped_of kind) others
    → IsKind m n groups stamps records occupancy kind named k → IsKind m n groups stamps records others kind named other → k ≡ other
kind-once m n groups stamps records occupancy others kind named k other are be h there =
    let there_is = kind-same m n groups stamps records others occupancy kind named other be are there in
    let a = h.numbers in
    let b = there_is.numbers in
    let p = packets_of m n stamps records occupancy kind in
    let count = length stamps in
    let bucket = bins-same (c_max_of m n kind) count p.bucket k.bucket other.bucket a.bucket b.bucket in
    let buffer = bins-same (vrx_full_of m n kind) count p.occupancy k.buffer other.buffer a.buffer b.buffer in
    let broken = a.groups_broken ∙ sym b.groups_broken in
    let overfull = first-once p.overfull count k.first_bucket other.first_bucket a.first_bucket b.first_bucket in
    let over = first-once p.over count k.first_over other.first_over a.first_over b.first_over in
    let empty = first-once p.empty count k.first_empty other.first_empty a.first_empty b.first_empty in
    let place = a.named_is ∙ sym b.named_is in
    let troff = window-once m n stamps kind k.troff other.troff h.troff there.troff in
    λ i. record {
      groups_broken = broken i;
      bucket = bucket i;
      buffer = buffer i;
      first_bucket = overfull i;
      first_over = over i;
      first_empty = empty i;
      named = place i;
      troff = troff i;
    }

-- the three types
record AreThree (m : Media) (n groups : ℕ) (stamps records : List ℕ) (gapped linear : ℕ → ℤ) (named : List (Option ℕ)) (ks : List KindNumbers)
    : Type 0 where
  pub narrow : KindNumbers
  pub narrow_linear : KindNumbers
  pub wide : KindNumbers
  pub whole : ks ≡ narrow ∷ narrow_linear ∷ wide ∷ []
  pub narrow_is : IsKind m n groups stamps records gapped N (slice_index_or named 0 None) narrow
  pub narrow_linear_is : IsKind m n groups stamps records linear NL (slice_index_or named 1 None) narrow_linear
  pub wide_is : IsKind m n groups stamps records linear W (slice_index_or named 2 None) wide

three : (m : Media) (n groups : ℕ) (stamps records : List ℕ) (gapped linear : ℕ → ℤ) (named : List (Option ℕ)) (ks : List KindNumbers)
    → AreKinds m n groups stamps records gapped linear named ks → AreThree m n groups stamps records gapped linear named ks
three m n groups stamps records gapped linear named [] h = absurd h
three m n groups stamps records gapped linear named (a ∷ []) h = absurd h
three m n groups stamps records gapped linear named (a ∷ b ∷ []) h = absurd h
three m n groups stamps records gapped linear named (a ∷ b ∷ c ∷ []) h = record {
  narrow = a;
  narrow_linear = b;
  wide = c;
  whole = refl;
  narrow_is = h.0;
  narrow_linear_is = h.1;
  wide_is = h.2;
}
three m n groups stamps records gapped linear named (a ∷ b ∷ c ∷ d ∷ ks) h = absurd h

kinds-once : (m : Media) (n groups : ℕ) (stamps records : List ℕ) (gapped linear gapped_too linear_too : ℕ → ℤ) (named : List (Option ℕ))
    (ks ls : List KindNumbers) → AreOccupancies m n stamps true gapped → AreOccupancies m n stamps true gapped_too
    → AreOccupancies m n stamps false linear → AreOccupancies m n stamps false linear_too → AreKinds m n groups stamps records gapped linear named ks
    → AreKinds m n groups stamps records gapped_too linear_too named ls → ks ≡ ls
kinds-once m n groups stamps records gapped linear gapped_too linear_too named ks ls are be linear_are linear_be h k =
    let a = three m n groups stamps records gapped linear named ks h in
    let b = three m n groups stamps records gapped_too linear_too named ls k in
    let narrow = kind-once m n groups stamps records gapped gapped_too N (slice_index_or named 0 None) a.narrow b.narrow are be a.narrow_is b.narrow_is in
    let narrow_linear =
    kind-once m n groups stamps records linear linear_too NL (slice_index_or named 1 None) a.narrow_linear b.narrow_linear linear_are linear_be
    a.narrow_linear_is b.narrow_linear_is in
    let wide = kind-once m n groups stamps records linear linear_too W (slice_index_or named 2 None) a.wide b.wide linear_are linear_be a.wide_is b.wide_is in
    a.whole ∙ (λ i. narrow i ∷ narrow_linear i ∷ wide i ∷ []) ∙ sym b.whole

-- the times between packets
gap-once : (stamp : ℕ → ℕ) (count : ℕ) (g d : Option Gaps) → MatchOption g (count ≤ 1) (AreGapsOf stamp count)
    → MatchOption d (count ≤ 1) (AreGapsOf stamp count) → g ≡ d
gap-once stamp count None None h k = refl
gap-once stamp count None (Some d) h k = absurd (omega (arith, h, k.summary.some))
gap-once stamp count (Some g) None h k = absurd (omega (arith, k, h.summary.some))
gap-once stamp count (Some g) (Some d) h k =
    let summary = summary-once _ (count - 1) g.summary d.summary h.summary k.summary in
    let classes = classes-same (gap_after stamp) (count - 1) g.classes d.classes h.classes k.classes in
    λ i. Some (record { summary = summary i; classes = classes i })

-- those of a run
numbers-once : (m : Media) (n groups : ℕ) (stamps records timestamps : List ℕ) (named : List (Option ℕ)) (x y : RunNumbers)
    → IsMeasured m n groups stamps records timestamps named x → IsMeasured m n groups stamps records timestamps named y → x ≡ y
numbers-once m n groups stamps records timestamps named x y h k =
    let stamp = slice_index stamps in
    let ticks = slice_index timestamps in
    let anchor = anchor_in m stamps in
    let bucket = summary-once (buckets_of m n stamps) (length stamps) x.bucket y.bucket h.bucket k.bucket in
    let gapped = buffer-once m n stamps true h.gapped_at k.gapped_at x.gapped y.gapped h.gapped k.gapped in
    let linear = buffer-once m n stamps false h.linear_at k.linear_at x.linear y.linear h.linear k.linear in
    let kinds =
    kinds-once m n groups stamps records h.gapped_at h.linear_at k.gapped_at k.linear_at named x.kinds y.kinds h.gapped.are k.gapped.are h.linear.are
    k.linear.are h.kinds k.kinds in
    let first = summary-once (since_at m anchor (firsts_of n stamp)) groups x.first y.first h.first k.first in
    let last = summary-once (since_at m anchor (lasts_of n stamp)) groups x.last y.last h.last k.last in
    let target = h.target ∙ sym k.target in
    let step = option-once (step_after (firsts_of n ticks)) (groups - 1) x.step y.step h.step k.step in
    let offset = summary-once (offset_at m anchor (firsts_of n ticks)) groups x.offset y.offset h.offset k.offset in
    let latency = summary-once (latency_at (firsts_of n stamp) (firsts_of n ticks)) groups x.latency y.latency h.latency k.latency in
    let gap = gap-once stamp (length stamps) x.gap y.gap h.gap k.gap in
    λ i. record {
      bucket = bucket i;
      gapped = gapped i;
      linear = linear i;
      kinds = kinds i;
      first = first i;
      last = last i;
      target = target i;
      step = step i;
      offset = offset i;
      latency = latency i;
      gap = gap i;
    }

-- a judged run of a media is measured in one way
pub run-once : (m : Media) (shift : Shift) (part : JudgedPart) (x y : MeasuredRun) → IsMeasuredRun (HasNumbers m shift) part x
    → IsMeasuredRun (HasNumbers m shift) part y → x ≡ y
run-once m shift part x y h k =
    let run = h.run_is ∙ sym k.run_is in
    let rec = h.record_is ∙ sym k.record_is in
    let number = h.number ∙ sym k.number in
    let judged = h.judged_is ∙ sym k.judged_is in
    let numbers = numbers-once m _ _ _ _ _ _ x.numbers y.numbers h.numbers k.numbers in
    λ i. record { run = run i; «record» = rec i; number = number i; judged = judged i; numbers = numbers i }

runs-once : (m : Media) (shift : Shift) (parts : List JudgedPart) (xs ys : List MeasuredRun) → AreMeasured (HasNumbers m shift) parts xs
    → AreMeasured (HasNumbers m shift) parts ys → xs ≡ ys
runs-once m shift [] [] [] h k = refl
runs-once m shift [] [] (y ∷ ys) h k = absurd k
runs-once m shift [] (x ∷ xs) ys h k = absurd h
runs-once m shift (part ∷ parts) [] ys h k = absurd h
runs-once m shift (part ∷ parts) (x ∷ xs) [] h k = absurd k
runs-once m shift (part ∷ parts) (x ∷ xs) (y ∷ ys) h k = ap₂ (λ a l. a ∷ l) (run-once m shift part x y h.0 k.0) (runs-once m shift parts xs ys h.1 k.1)

-- and so is its flow
pub flow-once : (m : Media) (number : ℕ) (options : FlowOptions) (packets : List FlowPacket) (f g : MeasuredFlow) → IsMeasuredFlow m number options packets f
    → IsMeasuredFlow m number options packets g → f ≡ g
flow-once m number options packets f g h k =
    let media = h.media ∙ sym k.media in
    let count = h.count ∙ sym k.count in
    let source = h.source ∙ sym k.source in
    let found = h.verdict_is ∙ sym k.verdict_is in
    let runs = runs-once m options.shift (judged_parts m (numbered options.seq16 packets) options.shift) f.runs g.runs h.runs k.runs in
    λ i. record { media = media i; packets = count i; ssrc = source i; verdict = found i; runs = runs i }
