-- What holds of the numbers of every run.
use Rattle.std.proofs.Common.{◌≡◌, ◌<◌, ◌≤◌, ◌+◌, ◌-◌, ◌↔◌, ℕ, ℤ, Bool, true, false, List, length, Option, Some, None, MatchOption, inl, inr}
use Rattle.std.proofs.Common.{refl, ap, ◌∙◌, sym, arith}
use Rattle.std.proofs.lemmas.Bool.{cases_lt}
use Rattle.std.proofs.lemmas.List.{ext_get_or}
use Rattle.timing_base.specs.Media.{IsMedia, Media}
use Rattle.timing_base.specs.declared.media.Kind.{Kind}
use Rattle.sender_params.specs.Keeps.{KeepsBuffer}
use Rattle.sender_params.specs.Limits.{c_max_of, gapped_of, vrx_full_of}
use Rattle.sender_params.specs.Ticks.{KeepsBucket, NeverFall}
use Rattle.flow_measure.specs.Bins.{AreBins, above_limit, below_zero}
use Rattle.flow_measure.specs.Classes.{AreClasses}
use Rattle.flow_measure.specs.First.{IsFirst}
use Rattle.flow_measure.specs.Kinds.{AreBinsOf}
use Rattle.flow_measure.specs.Occupancy.{AreOccupancies, buckets_of, margin_of}
use Rattle.flow_measure.specs.Run.{IsBuffer, IsKind}
use Rattle.flow_measure.specs.Summary.{IsSummary}
use Rattle.flow_measure.specs.declared.bins.Bins.{Bins}
use Rattle.flow_measure.specs.declared.numbers.Buffer.{Buffer}
use Rattle.flow_measure.specs.declared.numbers.KindNumbers.{KindNumbers}
use Rattle.flow_measure.specs.declared.summary.Summary.{Summary}
use Rattle.flow_measure.proofs.Agrees.{bins-agree, sum_of-same}
use Rattle.flow_measure.proofs.Bounds.{IsGreatest-same, IsLeast-same}
use Rattle.flow_measure.proofs.Passes.{bucket-passes, buffer-passes, occupancy-once}
use Rattle.flow_measure.proofs.Unique.{least-once, summary-once}

-- what bins count above their limit and below 0
pub above-is : (limit count : ℕ) (numbers : ℕ → ℤ) (b : Bins) → AreBinsOf limit numbers count b → b.above ≡ above_limit limit numbers count
above-is limit count numbers b h =
    h.counts.above ∙ ap (λ l. above_limit l numbers b.seen) h.limit_is ∙ ap (above_limit limit numbers) h.seen

pub below-is : (limit count : ℕ) (numbers : ℕ → ℤ) (b : Bins) → AreBinsOf limit numbers count b → b.below ≡ below_zero numbers count
below-is limit count numbers b h = h.counts.below ∙ ap (below_zero numbers) h.seen

-- a type passes by its bins
pub bucket-by-bins : (m : Media) (n groups : ℕ) (stamps records : List ℕ) (occupancy : ℕ → ℤ) (kind : Kind) (named : Option ℕ) (k : KindNumbers)
    → NeverFall stamps
    → IsKind m n groups stamps records occupancy kind named k
    → KeepsBucket m n stamps kind ↔ (k.bucket.above ≡ 0)
bucket-by-bins m n groups stamps records occupancy kind named k falls is =
    let passes = bucket-passes m n stamps kind falls in
    let above = above-is (c_max_of m n kind) (length stamps) (buckets_of m n stamps) k.bucket is.numbers.bucket in
    (λ keeps. above ∙ passes.0 keeps, λ none. passes.1 (sym above ∙ none))

pub buffer-by-bins : (m : Media) (n groups : ℕ) (stamps records : List ℕ) (occupancy : ℕ → ℤ) (kind : Kind) (named : Option ℕ) (k : KindNumbers)
    (b : Buffer)
    → IsMedia m
    → 1 ≤ n
    → NeverFall stamps
    → IsBuffer m n stamps (gapped_of kind) occupancy b
    → IsKind m n groups stamps records occupancy kind named k
    → KeepsBuffer m n stamps kind ↔ ((k.buffer.above ≡ 0) × (b.margins.late ≡ 0))
buffer-by-bins m n groups stamps records occupancy kind named k b media some falls held is =
    let passes = buffer-passes m n stamps kind occupancy media some falls held.are in
    let above = above-is (vrx_full_of m n kind) (length stamps) occupancy k.buffer is.numbers.buffer in
    (λ keeps. let p = passes.0 keeps in (above ∙ p.0, held.late ∙ p.1), λ none. passes.1 (sym above ∙ none.0, sym held.late ∙ none.1))

-- a place that passes and one that doesn't
not-both : (b : Bool) → b ≡ true → b ≡ false → ⊥
not-both true p q = absurd (cc)
not-both false p q = absurd (cc)

-- there is one first place
pub first-once : (test : ℕ → Bool) (count : ℕ) (found other : Option ℕ) → IsFirst test count found → IsFirst test count other → found ≡ other
first-once test count None None h k = refl
first-once test count None (Some j) h k = absurd (not-both (test j) k.1 (h j k.0))
first-once test count (Some i) None h k = absurd (not-both (test i) h.1 (k i h.0))
first-once test count (Some i) (Some j) h k = elim (cases_lt i j) as (λ _. Some i ≡ Some j) [
  | inl before ↦ absurd (not-both (test i) h.1 (k.2 i before))
  | inr late ↦ elim (cases_lt j i) as (λ _. Some i ≡ Some j) [
    | inl after ↦ absurd (not-both (test j) k.1 (h.2 j after))
    | inr same ↦ let e : i ≡ j = omega (arith, late, same) in ap (λ x. Some x) e
  ]
]

-- a summary of numbers that are the same at those places
summary-same : (numbers others : ℕ → ℤ) (count : ℕ) (s : Summary) → ((i : ℕ) → i < count → others i ≡ numbers i) → IsSummary numbers count s
    → IsSummary others count s
summary-same numbers others count s same h = record {
  some = h.some;
  least = IsLeast-same numbers others (λ i. i < count) s.least same h.least;
  greatest = IsGreatest-same numbers others (λ i. i < count) s.greatest same h.greatest;
  sum_is = h.sum_is ∙ sym (sum_of-same numbers others count same);
  first = h.first ∙ sym (same 0 h.some);
  last = h.last ∙ sym (same (count - 1) (omega (arith, h.some)));
}

-- there is one occupancy at each packet
occupancies-once : (m : Media) (n : ℕ) (stamps : List ℕ) (gapped : Bool) (occupancy others : ℕ → ℤ)
    → AreOccupancies m n stamps gapped occupancy
    → AreOccupancies m n stamps gapped others
    → (i : ℕ)
    → i < length stamps
    → occupancy i ≡ others i
occupancies-once m n stamps gapped occupancy others are be i few =
    occupancy-once m n stamps gapped i (occupancy i) (others i) (are i few) (be i few)

-- the buffer that has these
abbrev buffer_with : Summary → (slack : ℤ) → (late : ℕ) → Buffer
buffer_with s slack late = record { occupancy = s; margins = record { slack = slack; late = late } }

-- there is one buffer
pub buffer-once : (m : Media) (n : ℕ) (stamps : List ℕ) (gapped : Bool) (occupancy others : ℕ → ℤ) (b other : Buffer)
    → IsBuffer m n stamps gapped occupancy b
    → IsBuffer m n stamps gapped others other
    → b ≡ other
buffer-once m n stamps gapped occupancy others b other h k =
    let same = occupancies-once m n stamps gapped occupancy others h.are k.are in
    let there = summary-same others occupancy (length stamps) other.occupancy same k.summary in
    let held = summary-once occupancy (length stamps) b.occupancy other.occupancy h.summary there in
    let slack =
    least-once (margin_of m n stamps gapped) (λ i. i < length stamps) b.margins.slack other.margins.slack h.slack k.slack in
    ap (λ s. buffer_with s b.margins.slack b.margins.late) held
    ∙ ap (λ z. buffer_with other.occupancy z b.margins.late) slack
    ∙ ap (buffer_with other.occupancy other.margins.slack) (h.late ∙ sym k.late)

-- there is one summary, or none
pub option-once : (numbers : ℕ → ℤ) (count : ℕ) (s t : Option Summary)
    → MatchOption s (count ≡ 0) (IsSummary numbers count)
    → MatchOption t (count ≡ 0) (IsSummary numbers count)
    → s ≡ t
option-once numbers count None None h k = refl
option-once numbers count None (Some t) h k = absurd (omega (arith, h, k.some))
option-once numbers count (Some s) None h k = absurd (omega (arith, k, h.some))
option-once numbers count (Some s) (Some t) h k = ap (λ x. Some x) (summary-once numbers count s t h k)

-- the numbers of a type are those by each list of its occupancies
pub kind-same : (m : Media) (n groups : ℕ) (stamps records : List ℕ) (occupancy others : ℕ → ℤ) (kind : Kind) (named : Option ℕ) (k : KindNumbers)
    → AreOccupancies m n stamps (gapped_of kind) occupancy
    → AreOccupancies m n stamps (gapped_of kind) others
    → IsKind m n groups stamps records occupancy kind named k
    → IsKind m n groups stamps records others kind named k
kind-same m n groups stamps records occupancy others kind named k are be h =
    let same = occupancies-once m n stamps (gapped_of kind) others occupancy be are in
    let a = h.numbers in
    record {
      numbers = record {
        groups_broken = a.groups_broken;
        bucket = a.bucket;
        buffer = record {
          limit_is = a.buffer.limit_is;
          seen = a.buffer.seen;
          counts = bins-agree k.buffer occupancy others (λ i few. same i (omega (arith, few, a.buffer.seen))) a.buffer.counts;
        };
        first_bucket = a.first_bucket;
        first_over = a.first_over;
        first_empty = a.first_empty;
        named_is = a.named_is;
      };
      troff = h.troff;
    }

-- there is one list of bins, and one of classes
pub bins-once : (limit : ℕ) (numbers : ℕ → ℤ) (count : ℕ) (counts other : List ℕ)
    → AreBins limit numbers count counts
    → AreBins limit numbers count other
    → counts ≡ other
bins-once limit numbers count counts other h k =
    let long : length counts ≡ length other = h.length_is ∙ sym k.length_is in
    ext_get_or 0 counts other long (λ bin few. h.each bin few ∙ sym (k.each bin (omega (arith, few, long))))

classes-most : (numbers : ℕ → ℕ) (count : ℕ) (counts other : List ℕ)
    → AreClasses numbers count counts
    → AreClasses numbers count other
    → length other ≤ length counts
classes-most numbers count counts other h k =
    elim (cases_lt (length counts) (length other)) as (λ _. length other ≤ length counts) [
      | inl longer ↦
          let last = length other - 1 in
          let size : length other ≡ last + 1 = omega (arith, longer) in
          let none = h.rest last (omega (arith, longer)) in
          let some = k.ends last size in
          let is = k.each last (omega (arith, size)) in
          absurd (omega (arith, none, some, is))
      | inr shorter ↦ shorter
    ]

pub classes-once : (numbers : ℕ → ℕ) (count : ℕ) (counts other : List ℕ)
    → AreClasses numbers count counts
    → AreClasses numbers count other
    → counts ≡ other
classes-once numbers count counts other h k =
    let long : length counts ≡ length other =
    omega (arith, classes-most numbers count counts other h k, classes-most numbers count other counts k h) in
    ext_get_or 0 counts other long (λ class few. h.each class few ∙ sym (k.each class (omega (arith, few, long))))
