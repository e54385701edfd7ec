-- The peaks of all stretches of a run together are those of its result.
use Rattle.std.specs.Prelude.{max, slice_index}
use Rattle.std.proofs.Common.{◌≡◌, ◌<◌, ◌≤◌, ◌-◌, ◌+◌, ◌*◌, ◌/◌, ◌++◌, ◌∷◌, ℕ, ℤ, zero, suc, pos, negsuc, Bool, true, false, List, [], length, map, drop, take, Some}
use Rattle.std.proofs.Common.{inl, inr, ◌∙◌, ap, sym, subst, arith}
use Rattle.std.specs.Int.{int_max}
use Rattle.std.proofs.Math.Nat.{mul-div_cancel_left, mul-le-mul_right, mul_comm}
use Rattle.std.proofs.lemmas.Bool.{cases_lt}
use Rattle.std.proofs.lemmas.Int.{clamps, ints}
use Rattle.std.proofs.lemmas.List.{get_or_append_left, length-map, length-take-le, map-append, take-append-drop}
use Rattle.fraction128.specs.Fractions.{whole}
use Rattle.timing_base.specs.Judged.{stamp_of}
use Rattle.timing_base.specs.Media.{Media}
use Rattle.timing_base.specs.Numbered.{numbered}
use Rattle.timing_base.specs.Shifts.{FlowOptions, Shift}
use Rattle.timing_base.specs.declared.packet.FlowPacket.{FlowPacket}
use Rattle.timing_base.proofs.Numberings.{length-numbered}
use Rattle.sender_params.specs.Keeps.{due_among, held_at}
use Rattle.sender_params.specs.Reads.{anchor_of}
use Rattle.sender_params.specs.Ticks.{ticks_at, ticks_of}
use Rattle.drain_bucket.specs.Word.{bucket_of}
use Rattle.drain_bucket.proofs.Reich.{count_after-same}
use Rattle.run_meter.specs.Runs.{OpenPart, stamps_of}
use Rattle.fail_interval.specs.Fails.{greatest}
use Rattle.fail_interval.specs.Parts.{open_before}
use Rattle.flow_measure.proofs.Passes.{held-is}
use Rattle.flow_watch.specs.Stretches.{IsRange, IsStretch}
use Rattle.flow_watch.specs.Watched.{RunPart, groups_in, open_part}
use Rattle.flow_watch.specs.declared.peaks.BufferRange.{BufferRange}
use Rattle.flow_watch.specs.declared.stretch.Stretch.{Stretch}
use Rattle.timing_watch.specs.Agreeing.{AreAllStretches, AreStretches, HasPeaksOf, IsOpenAfter, greatest_of, packets_in}
use Rattle.timing_watch.specs.Watched.{Watching}
use Rattle.timing_watch.proofs.Results.{open-result}
use Rattle.timing_watch.proofs.Runs.{whole-part}

-- ---- the peak of values

-- the peak of the values from one place on and before another
record IsPeakIn (f : ℕ → ℕ) (from to x : ℕ) : Type 0 where
  most : (i : ℕ) → from ≤ i → i < to → f i ≤ x
  reached : 0 < x → (i : ℕ) × (i < to) × (f i ≡ x)

peak-none : (f : ℕ → ℕ) (from to : ℕ) → from ≡ to → IsPeakIn f from to 0
peak-none f from to same = record {
  most = λ i low high. absurd (omega (arith, low, high, same));
  reached = λ some. absurd (omega (arith, some));
}

peak-joined : (f : ℕ → ℕ) (from mid to x y : ℕ) → mid ≤ to → IsPeakIn f from mid x → IsPeakIn f mid to y → IsPeakIn f from to (max x y)
peak-joined f from mid to x y order h k = record {
  most = λ i low high. elim (cases_lt i mid) as (λ _. f i ≤ max x y) [
    | inl before ↦ let first = h.most i low before in omega (arith, first)
    | inr after ↦ let second = k.most i after high in omega (arith, second)
  ];
  reached = λ some. elim (cases_lt x y) as (λ _. (i : ℕ) × (i < to) × (f i ≡ max x y)) [
    | inl less ↦ let at = k.reached (omega (arith, less)) in (at.0, at.1, omega (arith, at.2, less))
    | inr high ↦ let at = h.reached (omega (arith, high, some)) in (at.0, omega (arith, at.1, order), omega (arith, at.2, high))
  ];
}

-- the greatest value is the peak
greatest-most : (f : ℕ → ℕ) (count peak : ℕ) → ((k : ℕ) → k < count → f k ≤ peak) → greatest f count ≤ peak
greatest-most f zero peak h = omega arith
greatest-most f (suc i) peak h = omega (arith, greatest-most f i peak (λ k low. h k (omega (arith, low))), h i (omega arith))

greatest-le : (f : ℕ → ℕ) (count k : ℕ) → k < count → f k ≤ greatest f count
greatest-le f zero k low = absurd (omega (arith, low))
greatest-le f (suc i) k low =
    elim (cases_lt k i) as (λ _. f k ≤ greatest f (suc i)) [
      | inl before ↦ omega (arith, greatest-le f i k before)
      | inr here ↦ let same : k ≡ i = omega (arith, here, low) in omega (arith, ap f same)
    ]

greatest-is : (f : ℕ → ℕ) (count x : ℕ) → IsPeakIn f 0 count x → greatest f count ≡ x
greatest-is f count x h =
    let low = greatest-most f count x (λ k few. h.most k (omega arith) few) in
    elim (cases_lt 0 x) as (λ _. greatest f count ≡ x) [
      | inl some ↦ let at = h.reached some in omega (arith, low, greatest-le f count at.0 at.1, at.2)
      | inr none ↦ omega (arith, low, none)
    ]

-- ---- a packet, whatever follows

front-of : (xs more : List ℕ) (i : ℕ) → i < length xs → slice_index (xs ++ more) i ≡ slice_index xs i
front-of xs more i few = get_or_append_left xs more 0 i few

bucket-after : (m : Media) (n : ℕ) (stamps more : List ℕ) (i : ℕ) → i < length stamps → bucket_of m n (stamps ++ more) i ≡ bucket_of m n stamps i
bucket-after m n stamps more i few =
    let new = stamps ++ more in
    count_after-same (ticks_at m n new) (ticks_at m n stamps) i
    (λ j low.
    let start : slice_index new 0 ≡ slice_index stamps 0 = front-of stamps more 0 (omega (arith, few)) in
    let here : slice_index new j ≡ slice_index stamps j = front-of stamps more j (omega (arith, low, few)) in
    ap (λ a. ticks_of m n a (slice_index new j)) start ∙ ap (ticks_of m n (slice_index stamps 0)) here)

held-after : (m : Media) (n : ℕ) (stamps more : List ℕ) (gapped : Bool) (i : ℕ) → i < length stamps
    → held_at m n (stamps ++ more) gapped i ≡ held_at m n stamps gapped i
held-after m n stamps more gapped i few =
    let new = stamps ++ more in
    ap (λ a. (i + 1) - due_among m n (anchor_of m a) gapped (i + 1) (whole (slice_index new i))) (front-of stamps more 0 (omega (arith, few)))
    ∙ ap (λ t. (i + 1) - due_among m n (anchor_of m (slice_index stamps 0)) gapped (i + 1) (whole t)) (front-of stamps more i few)

-- ---- one stretch

bucket-peak : (m : Media) (number n : ℕ) (stamps more : List ℕ) (from to : ℕ) (s : Stretch) → length stamps ≡ to * n
    → IsStretch m number n stamps from to s → IsPeakIn (bucket_of m n (stamps ++ more)) (from * n) (to * n) s.peaks.bucket
bucket-peak m number n stamps more from to s long is =
    let h = is.peaks_are.bucket_is in
    let same = λ (i : ℕ) (few : i < to * n). bucket-after m n stamps more i (omega (arith, few, long)) in
    record {
      most = λ i low high. omega (arith, ints, same i high, h.greatest i (record { after = low; before = high }));
      reached = λ some.
          let at = h.reached in (at.0, at.1.before, omega (arith, ints, same at.0 at.1.before, at.2));
    }

packets-are : (x : ℤ) → pos (packets_in x) ≡ int_max (pos 0) x
packets-are (pos k) = omega (arith, ints, clamps)
packets-are (negsuc k) = omega (arith, ints, clamps)

range-peak : (m : Media) (n : ℕ) (stamps more : List ℕ) (gapped : Bool) (from to : ℕ) (x : BufferRange) → length stamps ≡ to
    → IsRange m n stamps gapped from to x → IsPeakIn (held_at m n (stamps ++ more) gapped) from to (packets_in x.greatest)
range-peak m n stamps more gapped from to x long is =
    let h = is.greatest_is in
    let held = λ (i : ℕ) (few : i < to). held-is m n stamps gapped is.occupancy i is.are (omega (arith, few, long)) in
    let same = λ (i : ℕ) (few : i < to). held-after m n stamps more gapped i (omega (arith, few, long)) in
    let top = packets-are x.greatest in
    record {
      most = λ i low high. omega (arith, ints, clamps, top, same i high, held i high, h.greatest i (record { after = low; before = high }));
      reached = λ some.
          let at = h.reached in
          (at.0, at.1.before, omega (arith, ints, clamps, top, same at.0 at.1.before, held at.0 at.1.before, at.2));
    }

-- ---- all stretches

module _ (m : Media) (shift : Shift) (part : RunPart) (total : ℕ) (whole : length part.packets ≡ total * part.n) where
  -- the capture timestamps of the run, and those of its first frames or fields
  abbrev all : List ℕ
  all = stamps_of shift part.packets

  abbrev first : ℕ → List ℕ
  first groups = stamps_of shift (take (groups * part.n) part.packets)

  split : (groups : ℕ) → first groups ++ stamps_of shift (drop (groups * part.n) part.packets) ≡ all
  split groups =
      sym (map-append (stamp_of shift) (take (groups * part.n) part.packets) (drop (groups * part.n) part.packets))
      ∙ ap (stamps_of shift) (take-append-drop (groups * part.n) part.packets)

  first-long : (groups : ℕ) → groups ≤ total → length (first groups) ≡ groups * part.n
  first-long groups few =
      let most : groups * part.n ≤ total * part.n = mul-le-mul_right part.n few in
      length-map (take (groups * part.n) part.packets) (stamp_of shift)
      ∙ length-take-le (groups * part.n) part.packets (omega (arith, most, whole))

  -- the peaks of stretches
  record HavePeaks (from to : ℕ) (stretches : List Stretch) : Type 0 where
    bucket : IsPeakIn (bucket_of m part.n all) (from * part.n) (to * part.n) (greatest_of (map (λ (s : Stretch). s.peaks.bucket) stretches))
    gapped : IsPeakIn (held_at m part.n all true) (from * part.n) (to * part.n)
        (greatest_of (map (λ (s : Stretch). packets_in s.peaks.gapped.greatest) stretches))
    linear : IsPeakIn (held_at m part.n all false) (from * part.n) (to * part.n)
        (greatest_of (map (λ (s : Stretch). packets_in s.peaks.linear.greatest) stretches))

  have-peaks : (from to : ℕ) (stretches : List Stretch) → to ≤ total → AreStretches m shift part from to stretches → HavePeaks from to stretches
  have-peaks from to [] few same =
      let here : from * part.n ≡ to * part.n = ap (λ k. k * part.n) same in
      record {
        bucket = peak-none (bucket_of m part.n all) (from * part.n) (to * part.n) here;
        gapped = peak-none (held_at m part.n all true) (from * part.n) (to * part.n) here;
        linear = peak-none (held_at m part.n all false) (from * part.n) (to * part.n) here;
      }
  have-peaks from to (s ∷ rest) few h =
      let mid = h.0 in
      let is = h.3 in
      let more = stamps_of shift (drop (mid * part.n) part.packets) in
      let later = have-peaks mid to rest few h.4 in
      let order : mid * part.n ≤ to * part.n = mul-le-mul_right part.n h.2 in
      let long = first-long mid (omega (arith, h.2, few)) in
      let bucket = bucket-peak m part.number part.n (first mid) more from mid s long is in
      let gapped = range-peak m part.n (first mid) more true (from * part.n) (mid * part.n) s.peaks.gapped long is.peaks_are.gapped_are in
      let linear = range-peak m part.n (first mid) more false (from * part.n) (mid * part.n) s.peaks.linear long is.peaks_are.linear_are in
      record {
        bucket = peak-joined (bucket_of m part.n all) (from * part.n) (mid * part.n) (to * part.n) s.peaks.bucket _ order
            (subst (λ l. IsPeakIn (bucket_of m part.n l) (from * part.n) (mid * part.n) s.peaks.bucket) (split mid) bucket) later.bucket;
        gapped = peak-joined (held_at m part.n all true) (from * part.n) (mid * part.n) (to * part.n) (packets_in s.peaks.gapped.greatest) _ order
            (subst (λ l. IsPeakIn (held_at m part.n l true) (from * part.n) (mid * part.n) (packets_in s.peaks.gapped.greatest)) (split mid) gapped)
            later.gapped;
        linear = peak-joined (held_at m part.n all false) (from * part.n) (mid * part.n) (to * part.n) (packets_in s.peaks.linear.greatest) _ order
            (subst (λ l. IsPeakIn (held_at m part.n l false) (from * part.n) (mid * part.n) (packets_in s.peaks.linear.greatest)) (split mid) linear)
            later.linear;
      }

  -- the peak of all
  peak-of-all : (f : ℕ → ℕ) (x : ℕ) → IsPeakIn f (0 * part.n) (total * part.n) x → greatest f (length all) ≡ x
  peak-of-all f x h =
      let count : length all ≡ total * part.n = length-map part.packets (stamp_of shift) ∙ whole in
      let none : 0 * part.n ≡ 0 = omega arith in
      ap (greatest f) count ∙ greatest-is f (total * part.n) x (subst (λ k. IsPeakIn f k (total * part.n) x) none h)

-- those of the result of the open run
pub open-peaks : (w : Watching) (m : Media) (options : FlowOptions) (packets : List FlowPacket) (part : OpenPart) (stretches : List Stretch)
    → IsOpenAfter m options packets part → AreAllStretches m options.shift (open_part part) stretches → HasPeaksOf w m options packets stretches
open-peaks w m options packets part stretches opens are =
    let judged = numbered options.seq16 packets in
    let last : open_before judged options.shift (length judged) ≡ Some part =
    ap (open_before judged options.shift) (length-numbered options.seq16 packets) ∙ opens.last in
    let h = open-result m judged options.shift part opens.sound last in
    let values = h.0 in
    let some = (whole-part judged m.pt options.shift (length judged) part opens.sound (omega arith) last).some in
    let groups : groups_in (open_part part) ≡ values.frames =
    ap (λ k. k / part.run.n) h.2.judged.whole ∙ mul-div_cancel_left values.frames some in
    let whole : length part.packets ≡ values.frames * part.run.n = h.2.judged.whole ∙ mul_comm part.run.n values.frames in
    let stretches_are : AreStretches m options.shift (open_part part) 0 values.frames stretches =
    subst (λ to. AreStretches m options.shift (open_part part) 0 to stretches) groups are in
    let peaks = have-peaks m options.shift (open_part part) values.frames whole 0 values.frames stretches (omega arith) stretches_are in
    let of_all = peak-of-all m options.shift (open_part part) values.frames whole in
    let stamps = stamps_of options.shift part.packets in
    record {
      values = values;
      result_is = h.1;
      peaks_are = record {
        bucket = h.2.bucket ∙ of_all (bucket_of m part.run.n stamps) (greatest_of (map (λ (s : Stretch). s.peaks.bucket) stretches)) peaks.bucket;
        gapped = h.2.gapped
            ∙ of_all (held_at m part.run.n stamps true) (greatest_of (map (λ (s : Stretch). packets_in s.peaks.gapped.greatest) stretches)) peaks.gapped;
        linear = h.2.linear
            ∙ of_all (held_at m part.run.n stamps false) (greatest_of (map (λ (s : Stretch). packets_in s.peaks.linear.greatest) stretches)) peaks.linear;
      };
    }
