-- The state of a `WatchMeter` with one packet more, and at the end of a frame or field.
use Rattle.std.specs.Prelude.{int_lt, nat_lt}
use Rattle.std.specs.Int.{int_max}
use Rattle.std.proofs.Common.{◌≡◌, ◌<◌, ◌≤◌, ◌-◌, ◌+◌, ◌*◌, ◌^◌, ◌++◌, ◌∷◌, ◌||◌, ℕ, ℤ, pos, negsuc, Bool, true, false, cond, List, [], length}
use Rattle.std.proofs.Common.{◌∙◌, ap, ap₂, sym, subst, arith, length-append}
use Rattle.std.proofs.Math.Nat.{mul-le-mul_right}
use Rattle.std.proofs.lemmas.Int.{ints}
use Rattle.timing_base.specs.Media.{IsMedia, Media}
use Rattle.timing_base.specs.declared.media.Kind.{Kind}
use Rattle.sender_params.specs.Keeps.{held_at, is_empty, is_over}
use Rattle.sender_params.specs.Limits.{c_max_of, gapped_of, vrx_full_of}
use Rattle.drain_bucket.specs.Word.{bucket_of}
use Rattle.vrx_buffer.specs.Occupancy.{is_late}
use Rattle.vrx_buffer.specs.declared.held.Held.{Held}
use Rattle.run_meter.specs.Levels.{IsHeld, IsLevel}
use Rattle.run_meter.specs.Runs.{is_broken}
use Rattle.run_meter.specs.declared.level.Level.{Level}
use Rattle.flow_measure.specs.Counts.{count_of}
use Rattle.flow_measure.specs.Occupancy.{buckets_of}
use Rattle.flow_measure.specs.Stands.{CountsBroken}
use Rattle.flow_measure.proofs.Agrees.{broken-agrees}
use Rattle.flow_measure.proofs.Counted.{count_of-more}
use Rattle.flow_measure.proofs.Packets.{above-held, occupancies}
use Rattle.flow_measure.proofs.Passes.{held-is, occupancy-once}
use Rattle.flow_watch.specs.Stretches.{ArePeaks, IsBetween, IsRange, IsStretch}
use Rattle.flow_watch.specs.making.Broken.{breaks_by}
use Rattle.flow_watch.specs.making.Meters.{AreGroups, CountsType}
use Rattle.flow_watch.specs.making.Peaks.{IsJoined, IsOfOne, range_of}
use Rattle.flow_watch.specs.making.Takes.{EndsType, TakesPacket}
use Rattle.flow_watch.specs.declared.broken.TypeMeter.{TypeMeter}
use Rattle.flow_watch.specs.declared.peaks.Peaks.{Peaks}
use Rattle.flow_watch.specs.declared.stretch.Stretch.{Stretch}
use Rattle.flow_watch.proofs.Joining.{peaks-joined}
use Rattle.flow_watch.proofs.Keeping.{broken-after, peaks-after, stretch-after}

-- ---- the frames or fields that break a type

-- the buffer holds more than VRX_FULL, by its occupancy
over-held : (full held : ℕ) (x : ℤ) → pos held ≡ int_max (pos 0) x → nat_lt full held ≡ int_lt (pos full) x
over-held full held (pos x) e = above-held full held (pos x) e
over-held full held (negsuc x) e = above-held full held (negsuc x) e

-- a packet breaks a type, by the levels just after it
breaks-at : (m : Media) (n : ℕ) (stamps : List ℕ) (kind : Kind) (i bucket : ℕ) (held : Held) → IsMedia m → 1 ≤ n → i < length stamps
    → bucket ≡ bucket_of m n stamps i → IsHeld m n stamps (gapped_of kind) i held
    → is_broken m n stamps kind i ≡ breaks_by (c_max_of m n kind) (vrx_full_of m n kind) bucket held
breaks-at m n stamps kind i bucket held is some few same h =
    let gapped = gapped_of kind in
    let full = vrx_full_of m n kind in
    let at = occupancies m n stamps gapped is some in
    let here : at.0 i ≡ held.occupancy = occupancy-once m n stamps gapped i (at.0 i) held.occupancy (at.1 i few) h.occupancy in
    let holds : pos (held_at m n stamps gapped i) ≡ int_max (pos 0) held.occupancy = held-is m n stamps gapped at.0 i at.1 few ∙ ap (int_max (pos 0)) here in
    ap (λ b. (nat_lt (c_max_of m n kind) b || is_over m n stamps kind i) || is_empty m n stamps kind i) (sym same)
    ∙ ap (λ o. (nat_lt (c_max_of m n kind) bucket || o) || is_empty m n stamps kind i) (over-held full (held_at m n stamps gapped i) held.occupancy holds)
    ∙ ap (λ e. (nat_lt (c_max_of m n kind) bucket || int_lt (pos full) held.occupancy) || e) (sym h.late)

-- the counter of a type took one packet more
pub counts-more : (m : Media) (n : ℕ) (stamps : List ℕ) (at : ℕ) (kind : Kind) (groups bucket : ℕ) (held : Held) (old new : TypeMeter) → IsMedia m → 1 ≤ n
    → bucket ≡ bucket_of m n (stamps ++ at ∷ []) (length stamps) → IsHeld m n (stamps ++ at ∷ []) (gapped_of kind) (length stamps) held
    → TakesPacket bucket held old new → CountsType m n stamps kind groups old → CountsType m n (stamps ++ at ∷ []) kind groups new
counts-more m n stamps at kind groups bucket held old new is some same holds takes h =
    let all = stamps ++ at ∷ [] in
    let long : length all ≡ length stamps + 1 = length-append stamps (at ∷ []) in
    let before : CountsBroken n old.groups (is_broken m n all kind) (length stamps) =
    broken-agrees n (length stamps) old.groups (is_broken m n stamps kind) (is_broken m n all kind)
    (λ i few. broken-after m n stamps (at ∷ []) kind i few) h.counts in
    let broken : is_broken m n all kind (length stamps) ≡ breaks_by old.c_max old.vrx_full bucket held =
    breaks-at m n all kind (length stamps) bucket held is some (omega (arith, long)) same holds
    ∙ ap₂ (λ c f. breaks_by c f bucket held) (sym h.c_max_is) (sym h.vrx_full_is) in
    record {
      c_max_is = takes.limits.c_max_is ∙ h.c_max_is;
      vrx_full_is = takes.limits.vrx_full_is ∙ h.vrx_full_is;
      whole_is = takes.whole ∙ h.whole_is;
      counts = subst (CountsBroken n new.groups (is_broken m n all kind)) (sym long)
          (takes.stands n (is_broken m n all kind) (length stamps) before broken);
    }

-- it ended a frame or field
pub counts-over : (m : Media) (n : ℕ) (stamps : List ℕ) (kind : Kind) (groups : ℕ) (old new : TypeMeter) → length stamps ≡ groups * n + n
    → EndsType old new → CountsType m n stamps kind groups old → CountsType m n stamps kind (groups + 1) new
counts-over m n stamps kind groups old new whole ends h = record {
  c_max_is = ends.limits.c_max_is ∙ h.c_max_is;
  vrx_full_is = ends.limits.vrx_full_is ∙ h.vrx_full_is;
  whole_is = ends.whole ∙ ap (λ k. k + 1) h.whole_is;
  counts = ends.stands n (is_broken m n stamps kind) (length stamps) h.counts (whole ∙ ap (λ k. k * n + n) (sym h.whole_is));
}

-- ---- the peaks

-- the range of one packet
range-one : (m : Media) (n : ℕ) (stamps : List ℕ) (gapped : Bool) (i : ℕ) (held : Held) → IsMedia m → 1 ≤ n → i < length stamps
    → IsHeld m n stamps gapped i held → IsRange m n stamps gapped i (i + 1) (range_of held)
range-one m n stamps gapped i held is some few h =
    let at = occupancies m n stamps gapped is some in
    let here : at.0 i ≡ held.occupancy = occupancy-once m n stamps gapped i (at.0 i) held.occupancy (at.1 i few) h.occupancy in
    let only : (j : ℕ) → IsBetween i (i + 1) j → at.0 j ≡ held.occupancy =
    λ j of. let same : j ≡ i = omega (arith, of.after, of.before) in ap at.0 same ∙ here
    in
    let late = λ (j : ℕ). is_late m n stamps gapped (i + j) in
    let one : (i + 1) - i ≡ 0 + 1 = omega arith in
    let start : i + 0 ≡ i = omega arith in
    let count : count_of late ((i + 1) - i) ≡ count_of late (0 + 1) = ap (count_of late) one in
    let first = count_of-more late 0 in
    let passes : held.late ≡ late 0 = h.late ∙ ap (is_late m n stamps gapped) (sym start) in
    let same = ap (λ (b : Bool). cond {A = ℕ} b 1 0) passes in
    record {
      occupancy = at.0;
      are = at.1;
      least_is = record {
        least = λ j of. omega (arith, ints, only j of);
        reached = (i, record { after = omega arith; before = omega arith }, here);
      };
      greatest_is = record {
        greatest = λ j of. omega (arith, ints, only j of);
        reached = (i, record { after = omega arith; before = omega arith }, here);
      };
      late_is = omega (arith, same, first, count);
    }

-- the peaks of one packet
pub peaks-one : (m : Media) (n : ℕ) (stamps : List ℕ) (i : ℕ) (level : Level) (x : Peaks) → IsMedia m → 1 ≤ n → i < length stamps
    → IsLevel m n stamps i level → IsOfOne level x → ArePeaks m n stamps i (i + 1) x
peaks-one m n stamps i level x is some few h one =
    let bucket : x.bucket ≡ bucket_of m n stamps i = one.bucket_is ∙ h.bucket in
    let only : (j : ℕ) → IsBetween i (i + 1) j → buckets_of m n stamps j ≡ pos x.bucket =
    λ j of. let same : j ≡ i = omega (arith, of.after, of.before) in ap (buckets_of m n stamps) same ∙ ap pos (sym bucket)
    in
    let here : IsBetween i (i + 1) i = record { after = omega arith; before = omega arith } in
    record {
      bucket_is = record { greatest = λ j of. omega (arith, ints, only j of); reached = (i, here, only i here) };
      gapped_are = subst (IsRange m n stamps true i (i + 1)) (sym one.gapped_is) (range-one m n stamps true i level.gapped is some few h.gapped);
      linear_are = subst (IsRange m n stamps false i (i + 1)) (sym one.linear_is) (range-one m n stamps false i level.linear is some few h.linear);
    }

-- the peaks with one packet more
pub peaks-more : (m : Media) (n : ℕ) (stamps : List ℕ) (at from : ℕ) (level : Level) (old here new : Peaks) → IsMedia m → 1 ≤ n → from ≤ length stamps
    → length stamps < 2 ^ 41 → IsLevel m n (stamps ++ at ∷ []) (length stamps) level
    → IsOfOne level here → IsJoined old here new → ArePeaks m n stamps from (length stamps) old
    → ArePeaks m n (stamps ++ at ∷ []) from (length (stamps ++ at ∷ [])) new
peaks-more m n stamps at from level old here new is some order few h one both before =
    let all = stamps ++ at ∷ [] in
    let long : length all ≡ length stamps + 1 = length-append stamps (at ∷ []) in
    subst (λ to. ArePeaks m n all from to new) (sym long)
    (peaks-joined m n all from (length stamps) (length stamps + 1) old here new order (omega arith) (omega (arith, long)) (omega (arith, long, few))
    (peaks-after m n stamps (at ∷ []) from (length stamps) old is some order (omega arith) before)
    (peaks-one m n all (length stamps) level here is some (omega (arith, long)) h one) both)

-- ---- the frames or fields that are kept

-- they are the same with more packets
pub groups-after : (m : Media) (number n : ℕ) (stamps more : List ℕ) (from : ℕ) (kept : List Stretch) → IsMedia m → 1 ≤ n
    → (from + length kept) * n ≤ length stamps → AreGroups m number n stamps from kept → AreGroups m number n (stamps ++ more) from kept
groups-after m number n stamps more from [] is some within h = tt
groups-after m number n stamps more from (s ∷ rest) is some within h =
    let next : from + length (s ∷ rest) ≡ from + 1 + length rest = omega arith in
    let later : (from + 1 + length rest) * n ≤ length stamps = subst (λ g. g * n ≤ length stamps) next within in
    let front : (from + 1) * n ≤ (from + 1 + length rest) * n = mul-le-mul_right n (omega arith) in (
      stretch-after m number n stamps more from (from + 1) s is some (omega arith) (omega (arith, front, later)) h.0,
      groups-after m number n stamps more (from + 1) rest is some later h.1,
    )

-- and one more
pub groups-more : (m : Media) (number n : ℕ) (stamps : List ℕ) (from : ℕ) (kept : List Stretch) (s : Stretch) → AreGroups m number n stamps from kept
    → IsStretch m number n stamps (from + length kept) (from + length kept + 1) s → AreGroups m number n stamps from (kept ++ s ∷ [])
groups-more m number n stamps from [] s h is =
    let none : from + 0 ≡ from = omega arith in
    (subst (λ g. IsStretch m number n stamps g (g + 1) s) none is, tt)
groups-more m number n stamps from (one ∷ rest) s h is =
    let next : from + length (one ∷ rest) ≡ from + 1 + length rest = omega arith in
    (h.0, groups-more m number n stamps (from + 1) rest s h.1 (subst (λ g. IsStretch m number n stamps g (g + 1) s) next is))
