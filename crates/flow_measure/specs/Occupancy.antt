-- The levels of the bucket and of the virtual receiver buffer of SMPTE ST 2110-21 at each packet of a flow, and the
-- margin by which each packet arrives before its own read. m is the video, n the packets per frame or field, and the
-- capture timestamps are those of the judged packets, in nanoseconds of TAI, counted from 0. The schedule is gapped or
-- linear. Both models are the standard's. This project's profile: at one instant a packet arrives and a read is done
-- before the level is taken.
use Rattle.std.specs.Prelude.{◌≡◌, ◌≤◌, ◌<◌, ℕ, ℤ, pos, Bool, List, length, slice_index}
use Rattle.fraction128.specs.Fractions.{floor, minus, whole}
use Rattle.timing_base.specs.Media.{Media}
use Rattle.drain_bucket.specs.Word.{bucket_of}
use Rattle.vrx_buffer.specs.Occupancy.{IsOccupancy, is_late, own_read}
use Rattle.flow_measure.specs.Counts.{count_of}
use Rattle.flow_measure.specs.Summary.{IsLeast}

-- the occupancies of the buffer just after all packets
abbrev pub AreOccupancies : Media → ℕ → List ℕ → Bool → (occupancy : ℕ → ℤ) → Type 0
AreOccupancies m n stamps gapped occupancy = (i : ℕ) → i < length stamps → IsOccupancy m n stamps gapped i (occupancy i)

-- the count of the bucket of the network compatibility model just after packet i
abbrev pub buckets_of : Media → ℕ → List ℕ → ℕ → ℤ
buckets_of m n stamps i = pos (bucket_of m n stamps i)

-- the peak of the first `count` values, as in the report: the greatest of them, or 0 if there is none
pub record IsPeak (values : ℕ → ℕ) (count p : ℕ) : Type 0 where
  pub most : (k : ℕ) → k < count → values k ≤ p
  pub reached : 0 < p → (k : ℕ) × (k < count) × (values k ≡ p)

-- the count of late packets
abbrev pub late_of : Media → ℕ → List ℕ → Bool → ℕ
late_of m n stamps gapped = count_of (is_late m n stamps gapped) (length stamps)

-- the nanoseconds from packet i to its own read, rounded down; below 0 if the packet is late
abbrev pub margin_of : Media → ℕ → List ℕ → Bool → ℕ → ℤ
margin_of m n stamps gapped i = floor (minus (own_read m n stamps gapped i) (whole (slice_index stamps i)))

-- the nanoseconds by which all packets may be later before one is late, rounded down; below 0 if one is late
abbrev pub IsSlack : Media → ℕ → List ℕ → Bool → ℤ → Type 0
IsSlack m n stamps gapped x = IsLeast (margin_of m n stamps gapped) (λ i. i < length stamps) x
