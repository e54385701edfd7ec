-- A judged run of whole groups has its numbers.
use Rattle.std.proofs.Common.{◌≡◌, ◌≤◌, ◌<◌, ◌+◌, ◌-◌, ◌*◌, ◌/◌, ◌^◌, ◌==◌, ℕ, zero, suc, ℤ, pos, negsuc, ◌-ℤ◌, ◌⊎◌, inl, inr, Bool, true, false, ◌&&◌, nat_le}
use Rattle.std.proofs.Common.{List, [], ◌∷◌, length, get_or, set, replicate, sum, max, Option, Some, None, refl, sym, subst, ap, ap₂, ◌∙◌, arith}
use Rattle.std.specs.Prelude.{MatchOption, slice_index}
use Rattle.std.specs.List.{slice_index_or}
use Rattle.std.specs.Int.{div_ceil, int_max, int_min}
use Rattle.std.proofs.Math.Nat.{div-mul-le_self, mul-le-mul_right}
use Rattle.std.proofs.lemmas.Bool.{and_parts, cases_Bool, cases_eq, cases_lt, eq-eqb, eqb-true, le-leb, leb-true, lt-ltb, ne_eqb}
use Rattle.std.proofs.lemmas.Int.{ints}
use Rattle.std.proofs.lemmas.List.{length-replicate, length-set}
use Rattle.std.proofs.lemmas.List.Folds.{sum_by-replicate}
use Rattle.std.proofs.lemmas.List.Sums.{sum_by-set}
use Rattle.fraction128.specs.Fractions.{whole}
use Rattle.timing_base.specs.Media.{IsMedia, Media}
use Rattle.timing_base.specs.declared.media.Kind.{Kind}
use Rattle.timing_base.specs.declared.media.Kind.TheVariants.{N, NL, W}
use Rattle.sender_params.specs.Limits.{c_max_of, vrx_full_of}
use Rattle.sender_params.specs.Reads.{anchor_of}
use Rattle.sender_params.specs.Times.{offset_time}
use Rattle.read_schedule.proofs.Rising.{due-some}
use Rattle.flow_measure.specs.Bins.{above_limit, below_zero, bin_width, in_bin, is_above, is_below, is_in_bin}
use Rattle.flow_measure.specs.Broken.{broken_groups}
use Rattle.flow_measure.specs.Classes.{is_in_class}
use Rattle.flow_measure.specs.First.{IsFirst}
use Rattle.flow_measure.specs.Gaps.{AreGapsOf, gap_after}
use Rattle.flow_measure.specs.Groups.{firsts_of, lasts_of, latency_at, offset_at, since_at, step_after}
use Rattle.flow_measure.specs.Kinds.{AreBinsOf, breaks, place_below}
use Rattle.flow_measure.specs.Occupancy.{buckets_of, late_of, margin_of}
use Rattle.flow_measure.specs.Places.{place_of}
use Rattle.offset_window.proofs.Unique.{window-some}
use Rattle.flow_measure.specs.Run.{IsBuffer, IsKind, IsMeasured, anchor_in, packets_of}
use Rattle.flow_measure.specs.Stands.{Classifies}
use Rattle.flow_measure.specs.Summary.{IsGreatest, IsLeast, IsSummary, sum_of}
use Rattle.flow_measure.specs.Worked.{summary}
use Rattle.flow_measure.specs.declared.bins.Bins.{Bins}
use Rattle.flow_measure.specs.declared.bins.Place.{Place}
use Rattle.flow_measure.specs.declared.bins.Place.TheVariants.{Above, Below, Bin}
use Rattle.flow_measure.specs.declared.classes.Classes.{Classes}
use Rattle.flow_measure.specs.declared.numbers.Buffer.{Buffer}
use Rattle.flow_measure.specs.declared.numbers.Gaps.{Gaps}
use Rattle.flow_measure.specs.declared.numbers.KindNumbers.{KindNumbers}
use Rattle.flow_measure.specs.declared.numbers.RunNumbers.{RunNumbers}
use Rattle.flow_measure.specs.declared.summary.Summary.{Summary}
use Rattle.flow_measure.proofs.Binned.{IsTold, classified-more, counts-set, told}
use Rattle.flow_measure.proofs.Bounds.{IsGreatest-more, IsLeast-more}
use Rattle.flow_measure.proofs.Counted.{count-next, count-same, replicate-at}
use Rattle.flow_measure.proofs.Widths.{ceil-room}

next-is : (k : ℕ) → k + 1 ≡ suc k
next-is k = omega arith

-- ---- summaries

split : (i k : ℕ) → i < suc k → (i < k) ⊎ (i ≡ k)
split i k few = elim (cases_eq i k) as (λ _. (i < k) ⊎ (i ≡ k)) [
  | inl same ↦ inr same
  | inr other ↦ inl (omega (arith, few, other))
]

first-place : (i : ℕ) → i < suc zero → i ≡ 0
first-place i few = omega (arith, few)

least-some : (numbers : ℕ → ℤ) (count : ℕ) → (x : ℤ) × IsLeast numbers (λ i. i < suc count) x
least-some numbers zero = (
  numbers 0,
  record { least = λ i few. omega (arith, ints, ap numbers (first-place i few)); reached = (0, omega arith, refl) },
)
least-some numbers (suc count) =
    let before = least-some numbers count in
    let x = int_min before.0 (numbers (suc count)) in (
      x,
      IsLeast-more numbers (λ i. i < suc count) (λ i. i < suc (suc count)) (suc count) before.0 x before.1 (λ i few. omega (arith, few)) (omega arith)
          (λ i few. split i (suc count) few) refl,
    )

greatest-some : (numbers : ℕ → ℤ) (count : ℕ) → (x : ℤ) × IsGreatest numbers (λ i. i < suc count) x
greatest-some numbers zero = (
  numbers 0,
  record { greatest = λ i few. omega (arith, ints, ap numbers (first-place i few)); reached = (0, omega arith, refl) },
)
greatest-some numbers (suc count) =
    let before = greatest-some numbers count in
    let x = int_max before.0 (numbers (suc count)) in (
      x,
      IsGreatest-more numbers (λ i. i < suc count) (λ i. i < suc (suc count)) (suc count) before.0 x before.1 (λ i few. omega (arith, few)) (omega arith)
          (λ i few. split i (suc count) few) refl,
    )

least-of : (numbers : ℕ → ℤ) (count : ℕ) → 0 < count → (x : ℤ) × IsLeast numbers (λ i. i < count) x
least-of numbers zero some = absurd (omega (arith, some))
least-of numbers (suc count) some = least-some numbers count

pub summary-some : (numbers : ℕ → ℤ) (count : ℕ) → 0 < count → (s : Summary) × IsSummary numbers count s
summary-some numbers zero some = absurd (omega (arith, some))
summary-some numbers (suc count) some =
    let low = least-some numbers count in
    let high = greatest-some numbers count in (
      summary low.0 high.0 (sum_of numbers (suc count)) (numbers 0) (numbers (suc count - 1)),
      record { some = some; least = low.1; greatest = high.1; sum_is = refl; first = refl; last = refl },
    )

-- where there may be no number
summary-if : (numbers : ℕ → ℤ) (count : ℕ) → (o : Option Summary) × MatchOption o (count ≡ 0) (IsSummary numbers count)
summary-if numbers zero = (None, refl)
summary-if numbers (suc count) = let s = summary-some numbers (suc count) (omega arith) in (Some s.0, s.1)

-- ---- the first place that passes a test

first-more : (test : ℕ → Bool) (count : ℕ) (o : Option ℕ) → IsFirst test count o → (p : Option ℕ) × IsFirst test (suc count) p
first-more test count (Some i) h = (Some i, (omega (arith, h.0), h.1, h.2))
first-more test count None h = elim (cases_Bool (test count)) as (λ _. (p : Option ℕ) × IsFirst test (suc count) p) [
  | inl passes ↦ (Some count, (omega arith, passes, h))
  | inr fails ↦ (
    None,
    λ i few. elim (split i count few) as (λ _. test i ≡ false) [
      | inl before ↦ h i before
      | inr here ↦ ap test here ∙ fails
    ],
  )
]

first-some : (test : ℕ → Bool) (count : ℕ) → (o : Option ℕ) × IsFirst test count o
first-some test zero = (None, λ i few. absurd (omega (arith, few)))
first-some test (suc count) = let before = first-some test count in first-more test count before.0 before.1

-- ---- bins

-- bins that were fed these numbers
record HasBins (limit : ℕ) (numbers : ℕ → ℤ) (count : ℕ) : Type 0 where
  bins : Bins
  are : AreBinsOf limit numbers count bins

made-bins : (limit : ℕ) (numbers : ℕ → ℤ) (count above below : ℕ) (counts : List ℕ) → count ≤ 2 ^ 41 → length counts ≡ 64
    → sum counts + above + below ≡ count
    → ((bin : ℕ) → bin < 64 → get_or counts bin 0 ≡ in_bin limit bin numbers count) → above ≡ above_limit limit numbers count
    → below ≡ below_zero numbers count → HasBins limit numbers count
made-bins limit numbers count above below counts few long total each above_is below_is = record {
  bins = record {
    limit = limit;
    width = bin_width limit;
    counts = counts;
    above = above;
    below = below;
    seen = count;
    width_is = refl;
    few = few;
    all_counted = total;
    whole = long;
  };
  are = record { limit_is = refl; seen = refl; counts = record { each = each; above = above_is; below = below_is } };
}

-- a number up to the limit has one of 64 bins
bin-few : (limit x : ℕ) → x ≤ limit → x / bin_width limit < 64
bin-few limit x within =
    let w = div_ceil (limit + 1) 64 in
    elim (cases_lt (x / w) 64) as (λ _. x / w < 64) [
      | inl few ↦ few
      | inr more ↦
          let p : 64 * w ≤ x / w * w = mul-le-mul_right w (omega (arith, more)) in
          absurd (omega (arith, p, div-mul-le_self x w, ceil-room (limit + 1) 64 (omega arith), within))
    ]

-- whatever belongs to a bin belongs to one of 64
bin-below : (limit here : ℕ) (x : ℤ) → is_in_bin limit here x ≡ true → here < 64
bin-below limit here (negsuc x) e = cc
bin-below limit here (pos x) e =
    let both = and_parts (nat_le x limit) (x / bin_width limit == here) e in
    omega (arith, bin-few limit x (leb-true x limit both.0), eqb-true (x / bin_width limit) here both.1)

-- by where the next number belongs
bins-by : (limit : ℕ) (numbers : ℕ → ℤ) (count : ℕ) (b : Bins) → count + 1 ≤ 2 ^ 41
    → sum b.counts + b.above + b.below ≡ count
    → ((bin : ℕ) → bin < 64 → get_or b.counts bin 0 ≡ in_bin limit bin numbers count) → b.above ≡ above_limit limit numbers count
    → b.below ≡ below_zero numbers count → (place : Place) → IsTold limit (numbers count) place → HasBins limit numbers (count + 1)
bins-by limit numbers count b few total each above below Below t =
    made-bins limit numbers (count + 1) b.above (b.below + 1) b.counts few b.whole (omega (arith, total))
    (λ bin inside. count-same (λ i. is_in_bin limit bin (numbers i)) count (get_or b.counts bin 0) (each bin inside) (t.2 bin))
    (count-same (λ i. is_above limit (numbers i)) count b.above above t.1)
    (count-next (λ i. is_below (numbers i)) count b.below below t.0)
bins-by limit numbers count b few total each above below Above t =
    made-bins limit numbers (count + 1) (b.above + 1) b.below b.counts few b.whole (omega (arith, total))
    (λ bin inside. count-same (λ i. is_in_bin limit bin (numbers i)) count (get_or b.counts bin 0) (each bin inside) (t.2 bin))
    (count-next (λ i. is_above limit (numbers i)) count b.above above t.1)
    (count-same (λ i. is_below (numbers i)) count b.below below t.0)
bins-by limit numbers count b few total each above below (Bin here) t =
    let passes : is_in_bin limit here (numbers count) ≡ true = t.2 here ∙ eq-eqb here here refl in
    let inside : here < length b.counts = omega (arith, b.whole, bin-below limit here (numbers count) passes) in
    let new = get_or b.counts here 0 + 1 in
    let counts = set b.counts here new in
    let sums : sum counts + get_or b.counts here 0 ≡ sum b.counts + new = sum_by-set (λ x. x) b.counts here new 0 inside in
    made-bins limit numbers (count + 1) b.above b.below counts few (length-set b.counts here new ∙ b.whole) (omega (arith, total, sums))
    (λ bin room. counts-set (λ k i. is_in_bin limit k (numbers i)) count here b.counts inside (λ k among. each k (omega (arith, among, b.whole))) passes
    (λ k other. t.2 k ∙ ne_eqb here k (λ e. other (sym e))) bin (omega (arith, room, b.whole)))
    (count-same (λ i. is_above limit (numbers i)) count b.above above t.1)
    (count-same (λ i. is_below (numbers i)) count b.below below t.0)

more-bins : (limit : ℕ) (numbers : ℕ → ℤ) (count : ℕ) → count + 1 ≤ 2 ^ 41 → HasBins limit numbers count → HasBins limit numbers (count + 1)
more-bins limit numbers count few h =
    bins-by limit numbers count h.bins few (h.bins.all_counted ∙ h.are.seen)
    (λ bin inside. h.are.counts.each bin inside ∙ ap₂ (λ l s. in_bin l bin numbers s) h.are.limit_is h.are.seen)
    (h.are.counts.above ∙ ap₂ (λ l s. above_limit l numbers s) h.are.limit_is h.are.seen)
    (h.are.counts.below ∙ ap (below_zero numbers) h.are.seen)
    (place_of limit (numbers count)) (told limit (numbers count))

bins-some : (limit : ℕ) (numbers : ℕ → ℤ) (count : ℕ) → count ≤ 2 ^ 41 → HasBins limit numbers count
bins-some limit numbers zero few =
    let zeros : sum (replicate 64 0) ≡ 64 * 0 = sum_by-replicate (λ x. x) 64 0 in
    made-bins limit numbers 0 0 0 (replicate 64 0) few (length-replicate {A = ℕ} 64 0) (omega (arith, zeros)) (λ bin inside. replicate-at 0 64 bin) refl refl
bins-some limit numbers (suc count) few =
    subst (HasBins limit numbers) (next-is count)
    (more-bins limit numbers count (omega (arith, few)) (bins-some limit numbers count (omega (arith, few))))

-- ---- classes

-- a number below a power of two has a class
class-below : (k x : ℕ) → x < 2 ^ k → (c : ℕ) × (c ≤ k) × (is_in_class c x ≡ true)
class-below zero x few =
    let one : 2 ^ 0 ≡ 1 = refl in
    (0, omega arith, eq-eqb x 0 (omega (arith, few, one)))
class-below (suc k) x few = elim (cases_lt x (2 ^ k)) as (λ _. (c : ℕ) × (c ≤ suc k) × (is_in_class c x ≡ true)) [
  | inl less ↦ let c = class-below k x less in (c.0, omega (arith, c.1), c.2)
  | inr more ↦ (suc k, omega arith, ap₂ (λ a b. a && b) (le-leb (2 ^ k) x (omega (arith, more))) (lt-ltb x (2 ^ suc k) few))
]

-- classes that were fed these numbers
record HasClasses (numbers : ℕ → ℕ) (count : ℕ) : Type 0 where
  classes : Classes
  seen : classes.seen ≡ count
  counts : Classifies classes numbers

no-classes : (numbers : ℕ → ℕ) → HasClasses numbers 0
no-classes numbers =
    let zeros : sum (replicate 64 0) ≡ 64 * 0 = sum_by-replicate (λ x. x) 64 0 in
    record {
      classes = record {
        counts = replicate 64 0;
        length = 0;
        seen = 0;
        within = omega arith;
        few = omega arith;
        all_counted = omega (arith, zeros);
        whole = length-replicate {A = ℕ} 64 0;
      };
      seen = refl;
      counts = record { each = λ class few. replicate-at 0 64 class; rest = λ class past. refl; ends = λ last e. absurd (omega (arith, e)) };
    }

more-classes : (numbers : ℕ → ℕ) (count : ℕ) → count + 1 ≤ 2 ^ 41 → numbers count < 2 ^ 63 → HasClasses numbers count → HasClasses numbers (count + 1)
more-classes numbers count few small h =
    let b = h.classes in
    let found = class-below 63 (numbers count) small in
    let here = found.0 in
    let new = get_or b.counts here 0 + 1 in
    let inside : here < length b.counts = omega (arith, found.1, b.whole) in
    let sums : sum (set b.counts here new) + get_or b.counts here 0 ≡ sum b.counts + new = sum_by-set (λ x. x) b.counts here new 0 inside in
    let after : Classes = record {
      counts = set b.counts here new;
      length = max b.length (here + 1);
      seen = b.seen + 1;
      within = omega (arith, b.within, found.1);
      few = omega (arith, few, h.seen);
      all_counted = omega (arith, sums, b.all_counted);
      whole = length-set b.counts here new ∙ b.whole;
    } in
    record {
      classes = after;
      seen = ap (λ s. s + 1) h.seen;
      counts = classified-more b after numbers here (numbers count) b.whole (omega (arith, found.1)) found.2 (ap numbers h.seen) refl refl refl h.counts;
    }

classes-some : (numbers : ℕ → ℕ) (count : ℕ) → count ≤ 2 ^ 41 → ((i : ℕ) → i < count → numbers i < 2 ^ 63) → HasClasses numbers count
classes-some numbers zero few small = no-classes numbers
classes-some numbers (suc count) few small =
    subst (HasClasses numbers) (next-is count)
    (more-classes numbers count (omega (arith, few)) (small count (omega arith))
    (classes-some numbers count (omega (arith, few)) (λ i low. small i (omega (arith, low)))))

-- the times between packets
gaps-some : (stamp : ℕ → ℕ) (count : ℕ) → count ≤ 2 ^ 41 → ((i : ℕ) → i < count - 1 → gap_after stamp i < 2 ^ 63)
    → (o : Option Gaps) × MatchOption o (count ≤ 1) (AreGapsOf stamp count)
gaps-some stamp count few small = elim (cases_lt 1 count) as (λ _. (o : Option Gaps) × MatchOption o (count ≤ 1) (AreGapsOf stamp count)) [
  | inl more ↦
      let s = summary-some (λ i. pos (gap_after stamp i)) (count - 1) (omega (arith, more)) in
      let c = classes-some (gap_after stamp) (count - 1) (omega (arith, few)) small in
      let g : Gaps = record { summary = s.0; classes = c.classes } in
      (Some g, record { summary = s.1; classes = record { seen = c.seen; counts = c.counts } })
  | inr one ↦ (None, omega (arith, one))
]

-- ---- models

-- what a buffer held by the reads of one schedule
record HasBuffer (m : Media) (n : ℕ) (stamps : List ℕ) (gapped : Bool) : Type 0 where
  at : ℕ → ℤ
  buffer : Buffer
  is : IsBuffer m n stamps gapped at buffer

buffer-some : (m : Media) (n : ℕ) (stamps : List ℕ) (gapped : Bool) → IsMedia m → 1 ≤ n → 0 < length stamps → HasBuffer m n stamps gapped
buffer-some m n stamps gapped is some_n some =
    let den : 0 < 1 = omega arith in
    let due = λ (i : ℕ). due-some m n (anchor_of m (slice_index stamps 0)) gapped (whole (slice_index stamps i)) is some_n den in
    let at : ℕ → ℤ = λ i. pos (i + 1) -ℤ pos (due i).0 in
    let s = summary-some at (length stamps) some in
    let slack = least-of (margin_of m n stamps gapped) (length stamps) some in
    record {
      at = at;
      buffer = record { occupancy = s.0; margins = record { slack = slack.0; late = late_of m n stamps gapped } };
      is = record { are = λ i few. record { reads = (due i).0; due = (due i).1; is = refl }; summary = s.1; slack = slack.1; late = refl };
    }

-- how near the packets come to the limits of a type, and the offsets with which they would keep the buffer
kind-some : (m : Media) (n groups : ℕ) (stamps records : List ℕ) (at : ℕ → ℤ) (kind : Kind) (named : Option ℕ) → length stamps ≤ 2 ^ 41
    → (k : KindNumbers) × IsKind m n groups stamps records at kind named k
kind-some m n groups stamps records at kind named few =
    let count = length stamps in
    let c_max = c_max_of m n kind in
    let full = vrx_full_of m n kind in
    let p = packets_of m n stamps records at kind in
    let window = window-some m n stamps kind in
    let bucket = bins-some c_max p.bucket count few in
    let buffer = bins-some full p.occupancy count few in
    let overfull = first-some p.overfull count in
    let over = first-some p.over count in
    let empty = first-some p.empty count in
    let k : KindNumbers = record {
      groups_broken = broken_groups n (breaks p) groups;
      bucket = bucket.bins;
      buffer = buffer.bins;
      first_bucket = overfull.0;
      first_over = over.0;
      first_empty = empty.0;
      named = place_below p.rec p.stamp count named;
      troff = window.0;
    } in (
      k,
      record {
        numbers = record {
          groups_broken = refl;
          bucket = bucket.are;
          buffer = buffer.are;
          first_bucket = overfull.1;
          first_over = over.1;
          first_empty = empty.1;
          named_is = refl;
        };
        troff = window.1;
      },
    )

-- a run of whole groups has its numbers
pub numbers-some : (m : Media) (n groups : ℕ) (stamps records timestamps : List ℕ) (named : List (Option ℕ)) → IsMedia m → 1 ≤ n → 1 ≤ groups
    → length stamps ≡ n * groups → 1 ≤ length stamps → length stamps ≤ 2 ^ 41
    → ((i : ℕ) → i < length stamps - 1 → gap_after (slice_index stamps) i < 2 ^ 63)
    → (x : RunNumbers) × IsMeasured m n groups stamps records timestamps named x
numbers-some m n groups stamps records timestamps named is some_n some_groups whole_is some few small =
    let count = length stamps in
    let bucket = summary-some (buckets_of m n stamps) count (omega (arith, some)) in
    let gapped = buffer-some m n stamps true is some_n (omega (arith, some)) in
    let linear = buffer-some m n stamps false is some_n (omega (arith, some)) in
    let kind = λ (at : ℕ → ℤ) (k : Kind) (to : Option ℕ). kind-some m n groups stamps records at k to few in
    let narrow = kind gapped.at N (slice_index_or named 0 None) in
    let narrow_linear = kind linear.at NL (slice_index_or named 1 None) in
    let wide = kind linear.at W (slice_index_or named 2 None) in
    let anchor = anchor_in m stamps in
    let first_stamp = firsts_of n (slice_index stamps) in
    let first_timestamp = firsts_of n (slice_index timestamps) in
    let some_group : 0 < groups = omega (arith, some_groups) in
    let first = summary-some (since_at m anchor first_stamp) groups some_group in
    let last = summary-some (since_at m anchor (lasts_of n (slice_index stamps))) groups some_group in
    let step = summary-if (step_after first_timestamp) (groups - 1) in
    let offset = summary-some (offset_at m anchor first_timestamp) groups some_group in
    let latency = summary-some (latency_at first_stamp first_timestamp) groups some_group in
    let gap = gaps-some (slice_index stamps) count few small in
    let x : RunNumbers = record {
      bucket = bucket.0;
      gapped = gapped.buffer;
      linear = linear.buffer;
      kinds = narrow.0 ∷ narrow_linear.0 ∷ wide.0 ∷ [];
      first = first.0;
      last = last.0;
      target = (offset_time m).0 / (offset_time m).1;
      step = step.0;
      offset = offset.0;
      latency = latency.0;
      gap = gap.0;
    } in (
      x,
      record {
        whole = whole_is;
        gapped_at = gapped.at;
        linear_at = linear.at;
        bucket = bucket.1;
        gapped = gapped.is;
        linear = linear.is;
        kinds = (narrow.1, narrow_linear.1, wide.1);
        first = first.1;
        last = last.1;
        target = refl;
        step = step.1;
        offset = offset.1;
        latency = latency.1;
        gap = gap.1;
      },
    )
