-- Two stretches of a run, one after the other, are one.
use Rattle.std.proofs.Common.{◌≡◌, ◌⊎◌, ◌<◌, ◌≤◌, ◌+◌, ◌-◌, ◌*◌, ◌^◌, ℕ, zero, suc, pos, Bool, true, false, cond, List, length, inl, inr}
use Rattle.std.proofs.Common.{◌∙◌, ap, sym, subst, refl, arith}
use Rattle.std.specs.Int.{int_max}
use Rattle.std.proofs.Math.Nat.{mul-le-mul_right}
use Rattle.std.proofs.lemmas.Bool.{cases_lt}
use Rattle.std.proofs.lemmas.Int.{clamps, ints}
use Rattle.timing_base.specs.Media.{Media}
use Rattle.vrx_buffer.specs.Occupancy.{is_late}
use Rattle.flow_measure.specs.Counts.{count_of}
use Rattle.flow_measure.specs.Occupancy.{buckets_of}
use Rattle.flow_measure.specs.Summary.{IsGreatest, IsLeast}
use Rattle.flow_measure.proofs.Bounds.{IsGreatest-joined, IsGreatest-same, IsLeast-joined, IsLeast-same}
use Rattle.flow_measure.proofs.Counted.{count_of-more, count_of-same}
use Rattle.flow_measure.proofs.Passes.{occupancy-once}
use Rattle.flow_watch.specs.Stretches.{ArePeaks, IsBetween, IsRange, IsStretch}
use Rattle.flow_watch.specs.making.Peaks.{IsJoined, IsRangeOfBoth}
use Rattle.flow_watch.specs.making.Stretches.{IsJoinedStretch}
use Rattle.flow_watch.specs.declared.peaks.BufferRange.{BufferRange}
use Rattle.flow_watch.specs.declared.peaks.Peaks.{Peaks}
use Rattle.flow_watch.specs.declared.stretch.Stretch.{Stretch}

-- ---- the late packets

-- no more places pass than there are
cond-most : (b : Bool) → cond b 1 0 ≤ 1
cond-most true = omega arith
cond-most false = omega arith

pub count-most : (test : ℕ → Bool) (count : ℕ) → count_of test count ≤ count
count-most test zero = omega arith
count-most test (suc i) = omega (arith, count-most test i, cond-most (test i))

-- those of two parts
count-joined : (test : ℕ → Bool) (a b : ℕ) → count_of test (a + b) ≡ count_of test a + count_of (λ j. test (a + j)) b
count-joined test a zero =
    let same : a + zero ≡ a = omega arith in
    let e = ap (count_of test) same in
    omega (arith, e)
count-joined test a (suc b) =
    let next : a + suc b ≡ (a + b) + 1 = omega arith in
    let e = ap (count_of test) next in
    let last = count_of-more test (a + b) in
    let here : count_of (λ j. test (a + j)) (suc b) ≡ count_of (λ j. test (a + j)) b + cond (test (a + b)) 1 0 = refl in
    omega (arith, e, last, here, count-joined test a b)

late-joined : (test : ℕ → Bool) (from mid to : ℕ) → from ≤ mid → mid ≤ to
    → count_of (λ j. test (from + j)) (to - from) ≡ count_of (λ j. test (from + j)) (mid - from) + count_of (λ j. test (mid + j)) (to - mid)
late-joined test from mid to first second =
    let all : to - from ≡ (mid - from) + (to - mid) = omega (arith, first, second) in
    let e = ap (count_of (λ j. test (from + j))) all in
    let parts = count-joined (λ j. test (from + j)) (mid - from) (to - mid) in
    let rest : count_of (λ j. test (from + ((mid - from) + j))) (to - mid) ≡ count_of (λ j. test (mid + j)) (to - mid) =
    count_of-same (λ j. test (mid + j)) (λ j. test (from + ((mid - from) + j))) (to - mid)
    (λ j few. let step : from + ((mid - from) + j) ≡ mid + j = omega (arith, first) in ap test step)
    in omega (arith, e, parts, rest)

-- ---- the packets of two parts

split : (from mid to i : ℕ) → IsBetween from to i → IsBetween from mid i ⊎ IsBetween mid to i
split from mid to i of = elim (cases_lt i mid) as (λ _. IsBetween from mid i ⊎ IsBetween mid to i) [
  | inl low ↦ inl (record { after = of.after; before = low })
  | inr high ↦ inr (record { after = high; before = of.before })
]

first-part : (from mid to i : ℕ) → mid ≤ to → IsBetween from mid i → IsBetween from to i
first-part from mid to i later of = record { after = of.after; before = omega (arith, of.before, later) }

last-part : (from mid to i : ℕ) → from ≤ mid → IsBetween mid to i → IsBetween from to i
last-part from mid to i later of = record { after = omega (arith, of.after, later); before = of.before }

range-joined : (m : Media) (n : ℕ) (stamps : List ℕ) (gapped : Bool) (from mid to : ℕ) (x y z : BufferRange) → from ≤ mid → mid ≤ to
    → to ≤ length stamps → length stamps ≤ 2 ^ 41
    → IsRange m n stamps gapped from mid x → IsRange m n stamps gapped mid to y → IsRangeOfBoth x y z → IsRange m n stamps gapped from to z
range-joined m n stamps gapped from mid to x y z first second within few h k both =
    let late = λ (i : ℕ). is_late m n stamps gapped i in
    let same : (i : ℕ) → IsBetween mid to i → h.occupancy i ≡ k.occupancy i =
    λ i of.
    let there : i < length stamps = omega (arith, of.before, within) in
    occupancy-once m n stamps gapped i (h.occupancy i) (k.occupancy i) (h.are i there) (k.are i there)
    in
    let least =
    IsLeast-joined h.occupancy (IsBetween from mid) (IsBetween mid to) (IsBetween from to) x.least y.least h.least_is
    (IsLeast-same k.occupancy h.occupancy (IsBetween mid to) y.least same k.least_is)
    (λ i of. first-part from mid to i second of)
    (λ i of. last-part from mid to i first of)
    (λ i of. split from mid to i of)
    in
    let greatest =
    IsGreatest-joined h.occupancy (IsBetween from mid) (IsBetween mid to) (IsBetween from to) x.greatest y.greatest h.greatest_is
    (IsGreatest-same k.occupancy h.occupancy (IsBetween mid to) y.greatest same k.greatest_is)
    (λ i of. first-part from mid to i second of)
    (λ i of. last-part from mid to i first of)
    (λ i of. split from mid to i of)
    in
    let all = late-joined late from mid to first second in
    let front = count-most (λ j. late (from + j)) (mid - from) in
    let back = count-most (λ j. late (mid + j)) (to - mid) in
    record {
      occupancy = h.occupancy;
      are = h.are;
      least_is = subst (IsLeast h.occupancy (IsBetween from to)) (sym both.least) least;
      greatest_is = subst (IsGreatest h.occupancy (IsBetween from to)) (sym both.greatest) greatest;
      late_is = omega (arith, both.late, h.late_is, k.late_is, all, front, back, first, second, within, few);
    }

pub peaks-joined : (m : Media) (n : ℕ) (stamps : List ℕ) (from mid to : ℕ) (x y z : Peaks) → from ≤ mid → mid ≤ to → to ≤ length stamps
    → length stamps ≤ 2 ^ 41 → ArePeaks m n stamps from mid x → ArePeaks m n stamps mid to y → IsJoined x y z → ArePeaks m n stamps from to z
peaks-joined m n stamps from mid to x y z first second within few h k both =
    let buckets = buckets_of m n stamps in
    let most : int_max (pos x.bucket) (pos y.bucket) ≡ pos z.bucket = omega (arith, ints, clamps, both.bucket_is) in
    let greatest =
    IsGreatest-joined buckets (IsBetween from mid) (IsBetween mid to) (IsBetween from to) (pos x.bucket) (pos y.bucket) h.bucket_is k.bucket_is
    (λ i of. first-part from mid to i second of)
    (λ i of. last-part from mid to i first of)
    (λ i of. split from mid to i of)
    in
    record {
      bucket_is = subst (IsGreatest buckets (IsBetween from to)) most greatest;
      gapped_are = range-joined m n stamps true from mid to x.gapped y.gapped z.gapped first second within few h.gapped_are k.gapped_are both.gapped_are;
      linear_are = range-joined m n stamps false from mid to x.linear y.linear z.linear first second within few h.linear_are k.linear_are both.linear_are;
    }

-- a stretch and the next one
pub stretch-joined : (m : Media) (number n : ℕ) (stamps : List ℕ) (from mid to : ℕ) (a b s : Stretch) → from ≤ mid → mid ≤ to
    → to * n ≤ length stamps → length stamps ≤ 2 ^ 41
    → IsStretch m number n stamps from mid a → IsStretch m number n stamps mid to b → IsJoinedStretch a b s → IsStretch m number n stamps from to s
stretch-joined m number n stamps from mid to a b s first second within few h k both =
    let front : from * n ≤ mid * n = mul-le-mul_right n first in
    let back : mid * n ≤ to * n = mul-le-mul_right n second in
    record {
      run = both.run ∙ h.run;
      from_is = both.from_is ∙ h.from_is;
      to_is = both.to_is ∙ k.to_is;
      stamp = both.stamp ∙ k.stamp;
      c_max = both.c_max ∙ h.c_max;
      peaks_are = peaks-joined m n stamps (from * n) (mid * n) (to * n) a.peaks b.peaks s.peaks front back within few h.peaks_are k.peaks_are both.peaks_are;
      broken = both.broken ∙ k.broken;
    }
