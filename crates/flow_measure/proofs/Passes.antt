-- A type passes exactly where nothing is counted above its limits and no packet is late; and the peaks of a row.
use Rattle.std.proofs.Common.{◌≡◌, ◌≤◌, ◌<◌, ◌+◌, ◌↔◌, ℕ, ℤ, pos, ◌-ℤ◌, Bool, List, length, slice_index, inl, inr, refl, arith}
use Rattle.std.specs.Int.{int_max}
use Rattle.std.proofs.lemmas.Bool.{cases_lt, le-ltb, ltb-false}
use Rattle.std.proofs.lemmas.Int.{clamps, ints}
use Rattle.fraction128.specs.Fractions.{whole}
use Rattle.timing_base.specs.Media.{IsMedia, Media}
use Rattle.timing_base.specs.declared.media.Kind.{Kind}
use Rattle.sender_params.specs.Keeps.{KeepsBuffer, held_at}
use Rattle.sender_params.specs.Limits.{c_max_of, gapped_of, vrx_full_of}
use Rattle.sender_params.specs.Reads.{anchor_of}
use Rattle.sender_params.specs.Ticks.{KeepsBucket, NeverFall, load_of}
use Rattle.drain_bucket.specs.Word.{bucket_of}
use Rattle.drain_bucket.proofs.Reich.{count_is_load}
use Rattle.read_schedule.proofs.Held.{held_at-is}
use Rattle.read_schedule.proofs.Rising.{due-once, due-some}
use Rattle.vrx_buffer.specs.Occupancy.{IsOccupancy, is_late}
use Rattle.vrx_buffer.proofs.Instants.{keep-packets, packets-keep}
use Rattle.flow_measure.specs.Bins.{above_limit}
use Rattle.flow_measure.specs.Occupancy.{AreOccupancies, IsPeak, buckets_of, late_of}
use Rattle.flow_measure.specs.Summary.{IsSummary}
use Rattle.flow_measure.specs.declared.summary.Summary.{Summary}
use Rattle.flow_measure.proofs.Counted.{count_of-none, none-above, none-count_of}

-- the bucket keeps its limit exactly where no count is above it
pub bucket-passes : (m : Media) (n : ℕ) (stamps : List ℕ) (kind : Kind)
    → NeverFall stamps
    → KeepsBucket m n stamps kind ↔ (above_limit (c_max_of m n kind) (buckets_of m n stamps) (length stamps) ≡ 0)
bucket-passes m n stamps kind falls =
    let limit = c_max_of m n kind in
    let none = none-above limit (buckets_of m n stamps) (length stamps) in (
      λ keeps. none.1 (λ i few.
          let reich = count_is_load m n stamps i falls few in
          let r = reich.reached in
          let most : load_of m n stamps r.0 i ≤ limit = keeps r.0 i r.1 few in
          omega (arith, ints, most, r.2)),
      λ e j i first few.
          let reich = count_is_load m n stamps i falls few in
          let most = none.0 e i few in
          omega (arith, ints, most, reich.most j first),
    )

-- what the buffer holds, and the occupancy
pub held-is : (m : Media) (n : ℕ) (stamps : List ℕ) (gapped : Bool) (occupancy : ℕ → ℤ) (i : ℕ)
    → AreOccupancies m n stamps gapped occupancy
    → i < length stamps
    → pos (held_at m n stamps gapped i) ≡ int_max (pos 0) (occupancy i)
held-is m n stamps gapped occupancy i are few =
    let o = are i few in
    omega (arith, ints, clamps, held_at-is m n stamps gapped i o.reads o.due, o.is)

-- the buffer keeps its limit exactly where nothing is counted above it and no packet is late
pub buffer-passes : (m : Media) (n : ℕ) (stamps : List ℕ) (kind : Kind) (occupancy : ℕ → ℤ)
    → IsMedia m
    → 1 ≤ n
    → NeverFall stamps
    → AreOccupancies m n stamps (gapped_of kind) occupancy
    → KeepsBuffer m n stamps kind
    ↔ ((above_limit (vrx_full_of m n kind) occupancy (length stamps) ≡ 0) × (late_of m n stamps (gapped_of kind) ≡ 0))
buffer-passes m n stamps kind occupancy is some falls are =
    let full = vrx_full_of m n kind in
    let gapped = gapped_of kind in
    let none = none-above full occupancy (length stamps) in
    let held = λ (i : ℕ) (few : i < length stamps). held-is m n stamps gapped occupancy i are few in (
      λ keeps.
          let breaks = keep-packets m n stamps kind is some falls keeps in (
            none.1 (λ i few.
                let most : held_at m n stamps gapped i ≤ full = ltb-false full (held_at m n stamps gapped i) (breaks i few).0 in
                omega (arith, ints, clamps, held i few, most)),
            none-count_of (is_late m n stamps gapped) (length stamps) (λ i few. (breaks i few).1),
          ),
      λ e. packets-keep m n stamps kind is some falls (λ i few. (
        le-ltb full (held_at m n stamps gapped i) (omega (arith, ints, clamps, held i few, none.0 e.0 i few)),
        count_of-none (is_late m n stamps gapped) (length stamps) e.1 i few,
      )),
    )

-- p is the peak of a row: the greatest of these, and 0 where there is none
pub bucket-peak : (m : Media) (n : ℕ) (stamps : List ℕ) (s : Summary) (p : ℕ)
    → IsSummary (buckets_of m n stamps) (length stamps) s
    → IsPeak (bucket_of m n stamps) (length stamps) p
    → s.greatest ≡ pos p
bucket-peak m n stamps s p h peak =
    let r = h.greatest.reached in
    let high = peak.most r.0 r.1 in
    elim (cases_lt 0 p) as (λ _. s.greatest ≡ pos p) [
      | inl some ↦
          let q = peak.reached some in
          omega (arith, ints, r.2, high, h.greatest.greatest q.0 q.1, q.2)
      | inr none ↦ omega (arith, ints, r.2, high, none)
    ]

pub buffer-peak : (m : Media) (n : ℕ) (stamps : List ℕ) (gapped : Bool) (occupancy : ℕ → ℤ) (s : Summary) (p : ℕ)
    → AreOccupancies m n stamps gapped occupancy
    → IsSummary occupancy (length stamps) s
    → IsPeak (held_at m n stamps gapped) (length stamps) p
    → int_max (pos 0) s.greatest ≡ pos p
buffer-peak m n stamps gapped occupancy s p are h peak =
    let r = h.greatest.reached in
    let high = peak.most r.0 r.1 in
    let held = held-is m n stamps gapped occupancy r.0 are r.1 in
    elim (cases_lt 0 p) as (λ _. int_max (pos 0) s.greatest ≡ pos p) [
      | inl some ↦
          let q = peak.reached some in
          let other = held-is m n stamps gapped occupancy q.0 are q.1 in
          omega (arith, ints, clamps, r.2, high, held, h.greatest.greatest q.0 q.1, q.2, other)
      | inr none ↦ omega (arith, ints, clamps, r.2, high, held, none)
    ]

-- each packet has one occupancy
pub occupancy-some : (m : Media) (n : ℕ) (stamps : List ℕ) (gapped : Bool) (i : ℕ) → IsMedia m → 1 ≤ n
    → (x : ℤ) × IsOccupancy m n stamps gapped i x
occupancy-some m n stamps gapped i is some =
    let due = due-some m n (anchor_of m (slice_index stamps 0)) gapped (whole (slice_index stamps i)) is some (omega arith) in
    (pos (i + 1) -ℤ pos due.0, record { reads = due.0; due = due.1; is = refl })

pub occupancy-once : (m : Media) (n : ℕ) (stamps : List ℕ) (gapped : Bool) (i : ℕ) (x other : ℤ)
    → IsOccupancy m n stamps gapped i x → IsOccupancy m n stamps gapped i other → x ≡ other
occupancy-once m n stamps gapped i x other h k =
    let same = due-once m n (anchor_of m (slice_index stamps 0)) gapped (whole (slice_index stamps i)) h.reads k.reads h.due k.due in
    omega (arith, ints, same, h.is, k.is)
