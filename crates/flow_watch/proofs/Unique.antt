-- A stretch has one line, and the lines of a flow are one text.
use Rattle.std.proofs.Common.{◌≡◌, ◌≤◌, ◌-◌, ◌+◌, ◌*◌, ◌/◌, ◌++◌, ◌∷◌, ℕ, zero, suc, pos, Bool, true, false, List, [], length, Option, Some, None}
use Rattle.std.proofs.Common.{◌∙◌, ap, ap₂, sym, subst, refl, arith}
use Rattle.std.proofs.Math.Nat.{mul-le-mul_right, suc-mul}
use Rattle.std.proofs.lemmas.Int.{ints}
use Rattle.std.proofs.lemmas.List.{length-map}
use Rattle.std.proofs.lemmas.Nat.{div-add-mod'}
use Rattle.timing_base.specs.Judged.{stamp_of}
use Rattle.timing_base.specs.Media.{Media}
use Rattle.timing_base.specs.Shifts.{Shift}
use Rattle.run_meter.specs.Runs.{JudgedPart, OpenPart, stamps_of}
use Rattle.flow_measure.specs.Occupancy.{buckets_of}
use Rattle.flow_measure.proofs.Bounds.{IsGreatest-same, IsLeast-same}
use Rattle.flow_measure.proofs.Passes.{occupancy-once}
use Rattle.flow_measure.proofs.Unique.{greatest-once, least-once}
use Rattle.flow_watch.specs.Lines.{stretch_line}
use Rattle.flow_watch.specs.Stretches.{ArePeaks, IsBetween, IsRange, IsStretch}
use Rattle.flow_watch.specs.Watched.{AreAllLines, AreLines, AreLinesOf, AreLinesSoFar, HasLine, IsLeft, IsLeftLine, RunPart, ended_part, groups_in, left_line}
use Rattle.flow_watch.specs.Watched.{left_of, open_part}
use Rattle.flow_watch.specs.declared.form.LineForm.{LineForm}
use Rattle.flow_watch.specs.declared.peaks.BufferRange.{BufferRange}
use Rattle.flow_watch.specs.declared.peaks.Peaks.{Peaks}
use Rattle.flow_watch.specs.declared.stretch.Stretch.{Stretch}

-- packets have one range
range-once : (m : Media) (n : ℕ) (stamps : List ℕ) (gapped : Bool) (from to : ℕ) (x y : BufferRange) → to ≤ length stamps
    → IsRange m n stamps gapped from to x → IsRange m n stamps gapped from to y → x ≡ y
range-once m n stamps gapped from to x y within h k =
    let same : (i : ℕ) → IsBetween from to i → h.occupancy i ≡ k.occupancy i =
    λ i of.
    occupancy-once m n stamps gapped i (h.occupancy i) (k.occupancy i) (h.are i (omega (arith, within, of.before))) (k.are i (omega (arith, within, of.before)))
    in
    let least =
    least-once h.occupancy (IsBetween from to) x.least y.least h.least_is (IsLeast-same k.occupancy h.occupancy (IsBetween from to) y.least same k.least_is) in
    let greatest =
    greatest-once h.occupancy (IsBetween from to) x.greatest y.greatest h.greatest_is
    (IsGreatest-same k.occupancy h.occupancy (IsBetween from to) y.greatest same k.greatest_is) in
    let late = h.late_is ∙ sym k.late_is in
    λ i. record { least = least i; greatest = greatest i; late = late i }

-- so have they one pair of peaks
peaks-once : (m : Media) (n : ℕ) (stamps : List ℕ) (from to : ℕ) (x y : Peaks) → to ≤ length stamps → ArePeaks m n stamps from to x
    → ArePeaks m n stamps from to y → x ≡ y
peaks-once m n stamps from to x y within h k =
    let most = greatest-once (buckets_of m n stamps) (IsBetween from to) (pos x.bucket) (pos y.bucket) h.bucket_is k.bucket_is in
    let bucket : x.bucket ≡ y.bucket = omega (arith, ints, most) in
    let gapped = range-once m n stamps true from to x.gapped y.gapped within h.gapped_are k.gapped_are in
    let linear = range-once m n stamps false from to x.linear y.linear within h.linear_are k.linear_are in
    λ i. record { bucket = bucket i; gapped = gapped i; linear = linear i }

-- frames or fields are one stretch
stretch-once : (m : Media) (number n : ℕ) (stamps : List ℕ) (from to : ℕ) (s t : Stretch) → to * n ≤ length stamps
    → IsStretch m number n stamps from to s → IsStretch m number n stamps from to t → s ≡ t
stretch-once m number n stamps from to s t within h k =
    let run = h.run ∙ sym k.run in
    let begin = h.from_is ∙ sym k.from_is in
    let end = h.to_is ∙ sym k.to_is in
    let stamp = h.stamp ∙ sym k.stamp in
    let c_max = h.c_max ∙ sym k.c_max in
    let peaks = peaks-once m n stamps (from * n) (to * n) s.peaks t.peaks within h.peaks_are k.peaks_are in
    let broken = h.broken ∙ sym k.broken in
    λ i. record {
      run = run i;
      from = begin i;
      to = end i;
      stamp = stamp i;
      c_max = c_max i;
      peaks = peaks i;
      broken = broken i;
    }

-- the packets of complete frames or fields are among those of the run
pub within : (shift : Shift) (part : RunPart) (to : ℕ) → to ≤ groups_in part → to * part.n ≤ length (stamps_of shift part.packets)
within shift part to few =
    let long : length (stamps_of shift part.packets) ≡ length part.packets = length-map part.packets (stamp_of shift) in
    let whole = div-add-mod' (length part.packets) part.n in
    let most : to * part.n ≤ groups_in part * part.n = mul-le-mul_right part.n few in
    omega (arith, long, whole, most)

-- a stretch has one line
pub line-once : (form : LineForm) (m : Media) (shift : Shift) (part : RunPart) (from to : ℕ) (a b : List ℕ) → to ≤ groups_in part
    → HasLine form m shift part from to a → HasLine form m shift part from to b → a ≡ b
line-once form m shift part from to a b few h k =
    let one =
    stretch-once m part.number part.n (stamps_of shift part.packets) from to h.stretch k.stretch (within shift part to few) h.is k.is in
    h.text_is ∙ ap (stretch_line form) one ∙ sym k.text_is

-- so many complete stretches have one text
pub lines-once : (form : LineForm) (every : ℕ) (m : Media) (shift : Shift) (part : RunPart) (count : ℕ) (a b : List ℕ) → count * every ≤ groups_in part
    → AreLines form every m shift part count a → AreLines form every m shift part count b → a ≡ b
lines-once form every m shift part zero a b few h k = h ∙ sym k
lines-once form every m shift part (suc count) a b few h k =
    let one : count * every + every ≤ groups_in part = subst (λ g. g ≤ groups_in part) (suc-mul count every) few in
    let fewer : count * every ≤ groups_in part = omega (arith, one) in
    h.2 ∙ ap₂ (λ x y. x ++ y) (lines-once form every m shift part count h.0 k.0 fewer h.3 k.3)
    (line-once form m shift part (count * every) (count * every + every) h.1 k.1 one h.4 k.4) ∙ sym k.2

-- the complete stretches of a run end within it
pub complete : (every : ℕ) (part : RunPart) → groups_in part / every * every ≤ groups_in part
complete every part =
    let whole = div-add-mod' (groups_in part) every in
    omega (arith, whole)

-- one stretch is left, or none
pub left-once : (every : ℕ) (m : Media) (shift : Shift) (part : RunPart) (x y : Option Stretch) → IsLeft every m shift part x
    → IsLeft every m shift part y → x ≡ y
left-once every m shift part None None h k = refl
left-once every m shift part None (Some t) h k = absurd (omega (arith, h, k.0))
left-once every m shift part (Some s) None h k = absurd (omega (arith, k, h.0))
left-once every m shift part (Some s) (Some t) h k =
    let all : groups_in part ≤ groups_in part = omega arith in
    ap Some
    (stretch-once m part.number part.n (stamps_of shift part.packets) (groups_in part - left_of every part) (groups_in part) s t
    (within shift part (groups_in part) all) h.1 k.1)

pub left-line-once : (form : LineForm) (every : ℕ) (m : Media) (shift : Shift) (part : RunPart) (a b : List ℕ) → IsLeftLine form every m shift part a
    → IsLeftLine form every m shift part b → a ≡ b
left-line-once form every m shift part a b h k = h.2 ∙ ap (left_line form) (left-once every m shift part h.0 k.0 h.1 k.1) ∙ sym k.2

-- runs that have ended have one text
all-once : (form : LineForm) (every : ℕ) (m : Media) (shift : Shift) (part : RunPart) (a b : List ℕ) → AreAllLines form every m shift part a
    → AreAllLines form every m shift part b → a ≡ b
all-once form every m shift part a b h k =
    h.2 ∙ ap₂ (λ x y. x ++ y) (lines-once form every m shift part (groups_in part / every) h.0 k.0 (complete every part) h.3 k.3)
    (left-line-once form every m shift part h.1 k.1 h.4 k.4) ∙ sym k.2

pub ended-once : (form : LineForm) (every : ℕ) (m : Media) (shift : Shift) (parts : List JudgedPart) (a b : List ℕ) → AreLinesOf form every m shift parts a
    → AreLinesOf form every m shift parts b → a ≡ b
ended-once form every m shift [] a b h k = h ∙ sym k
ended-once form every m shift (part ∷ parts) a b h k =
    h.2 ∙ ap₂ (λ x y. x ++ y) (all-once form every m shift (ended_part part) h.0 k.0 h.3 k.3) (ended-once form every m shift parts h.1 k.1 h.4 k.4) ∙ sym k.2

-- the lines of the runs so far are one text, and one stretch is open, or none
abbrev SameLines : (a b : List ℕ) (x y : Option Stretch) → Type 0
SameLines a b x y = (a ≡ b) × (x ≡ y)

pub so-far-once : (form : LineForm) (every : ℕ) (m : Media) (shift : Shift) (over : List JudgedPart) (part : Option OpenPart) (a b : List ℕ)
    (x y : Option Stretch)
    → AreLinesSoFar form every m shift over part a x → AreLinesSoFar form every m shift over part b y → SameLines a b x y
so-far-once form every m shift over None a b x y h k = (ended-once form every m shift over a b h.0 k.0, h.1 ∙ sym k.1)
so-far-once form every m shift over (Some part) a b x y h k =
    let run = open_part part in (
      h.2 ∙ ap₂ (λ s t. s ++ t) (ended-once form every m shift over h.0 k.0 h.3 k.3)
          (lines-once form every m shift run (groups_in run / every) h.1 k.1 (complete every run) h.4 k.4) ∙ sym k.2,
      left-once every m shift run x y h.5 k.5,
    )
