-- The measurements of one judged run: its packets against the two models of SMPTE ST 2110-21, and its frames or fields
-- against the media clock of ST 2110-10. m is the video, n the packets per frame or field, and `groups` the count of
-- frames or fields. For each judged packet, counted from 0, `stamps` has the capture timestamp in nanoseconds of TAI,
-- `records` the packet record, from 1, and `timestamps` the RTP timestamp in ticks of 90 kHz, which all packets of a
-- frame or field share. The choice of measurements is this project's own.
use Rattle.std.specs.Prelude.{◌≡◌, ◌-◌, ◌*◌, ◌/◌, ◌≤◌, ℕ, ℤ, Bool, true, false, List, [], ◌∷◌, length, slice_index}
use Rattle.std.specs.Prelude.{Option, None, MatchOption}
use Rattle.std.specs.List.{slice_index_or}
use Rattle.timing_base.specs.Media.{Media}
use Rattle.timing_base.specs.declared.media.Kind.{Kind}
use Rattle.timing_base.specs.declared.media.Kind.TheVariants.{N, NL, W}
use Rattle.sender_params.specs.Keeps.{is_empty, is_over}
use Rattle.sender_params.specs.Limits.{c_max_of, vrx_full_of}
use Rattle.sender_params.specs.Reads.{anchor_of}
use Rattle.sender_params.specs.Times.{offset_time}
use Rattle.offset_window.specs.Window.{IsWindow}
use Rattle.flow_measure.specs.Bins.{is_above}
use Rattle.flow_measure.specs.Gaps.{AreGapsOf}
use Rattle.flow_measure.specs.Groups.{firsts_of, lasts_of, latency_at, offset_at, since_at, step_after}
use Rattle.flow_measure.specs.Kinds.{AreKindNumbers, Packets}
use Rattle.flow_measure.specs.Occupancy.{AreOccupancies, IsSlack, buckets_of, late_of}
use Rattle.flow_measure.specs.Summary.{IsSummary}
use Rattle.flow_measure.specs.declared.numbers.Buffer.{Buffer}
use Rattle.flow_measure.specs.declared.numbers.KindNumbers.{KindNumbers}
use Rattle.flow_measure.specs.declared.numbers.RunNumbers.{RunNumbers}

-- the bucket exceeds C_MAX of this type just after packet i
abbrev pub is_overfull : Media → ℕ → List ℕ → Kind → ℕ → Bool
is_overfull m n stamps kind i = is_above (c_max_of m n kind) (buckets_of m n stamps i)

-- the values of the packets for this type; `occupancy` is that of the buffer by its schedule
abbrev pub packets_of : Media → ℕ → (stamps records : List ℕ) → (occupancy : ℕ → ℤ) → Kind → Packets
packets_of m n stamps records occupancy kind = record {
  bucket = buckets_of m n stamps;
  occupancy = occupancy;
  overfull = is_overfull m n stamps kind;
  over = is_over m n stamps kind;
  empty = is_empty m n stamps kind;
  rec = slice_index records;
  stamp = slice_index stamps;
}

-- the measurements of the packets against the limits of this type, with the place of packet `named`, and the offsets
-- with which the packets would keep the buffer
pub record IsKind (m : Media) (n groups : ℕ) (stamps records : List ℕ) (occupancy : ℕ → ℤ) (kind : Kind)
    (named : Option ℕ) (k : KindNumbers) : Type 0 where
  pub numbers : AreKindNumbers n groups (length stamps) (c_max_of m n kind) (vrx_full_of m n kind) named
      (packets_of m n stamps records occupancy kind) k
  pub troff : IsWindow m n stamps kind k.troff

-- the measurements for the types N, NL and W: the reads of N are gapped, those of NL and W linear
abbrev pub AreKinds : Media → (n groups : ℕ) → (stamps records : List ℕ) → (gapped linear : ℕ → ℤ)
    → List (Option ℕ) → List KindNumbers → Type 0
AreKinds m n groups stamps records gapped linear named (narrow ∷ narrow_linear ∷ wide ∷ []) =
    IsKind m n groups stamps records gapped N (slice_index_or named 0 None) narrow
    × IsKind m n groups stamps records linear NL (slice_index_or named 1 None) narrow_linear
    × IsKind m n groups stamps records linear W (slice_index_or named 2 None) wide
AreKinds m n groups stamps records gapped linear named _ = ⊥

-- the occupancy of the buffer by the reads of one schedule
pub record IsBuffer (m : Media) (n : ℕ) (stamps : List ℕ) (gapped : Bool) (occupancy : ℕ → ℤ) (b : Buffer)
    : Type 0 where
  pub are : AreOccupancies m n stamps gapped occupancy
  pub summary : IsSummary occupancy (length stamps) b.occupancy
  pub slack : IsSlack m n stamps gapped b.margins.slack
  pub late : b.margins.late ≡ late_of m n stamps gapped

-- the number of the first packet's frame or field, counted from the epoch
abbrev pub anchor_in : Media → (stamps : List ℕ) → ℤ
anchor_in m stamps = anchor_of m (slice_index stamps 0)

-- the measurements of the run; `named` has the packet that the verdict's violation names, for N, NL and W in this order
pub record IsMeasured (m : Media) (n groups : ℕ) (stamps records timestamps : List ℕ) (named : List (Option ℕ))
    (x : RunNumbers) : Type 0 where
  pub whole : length stamps ≡ n * groups
  -- the occupancy of the buffer just after each packet, by gapped and by linear reads
  pub gapped_at : ℕ → ℤ
  pub linear_at : ℕ → ℤ
  pub bucket : IsSummary (buckets_of m n stamps) (length stamps) x.bucket
  pub gapped : IsBuffer m n stamps true gapped_at x.gapped
  pub linear : IsBuffer m n stamps false linear_at x.linear
  pub kinds : AreKinds m n groups stamps records gapped_at linear_at named x.kinds
  -- the first and the last packet of each frame or field against the instant at which it begins
  pub first : IsSummary (since_at m (anchor_in m stamps) (firsts_of n (slice_index stamps))) groups x.first
  pub last : IsSummary (since_at m (anchor_in m stamps) (lasts_of n (slice_index stamps))) groups x.last
  pub target : x.target ≡ (offset_time m).0 / (offset_time m).1
  -- each RTP timestamp against the one before, against the media clock at that instant, and against its first packet
  pub step : MatchOption x.step (groups - 1 ≡ 0)
      (IsSummary (step_after (firsts_of n (slice_index timestamps))) (groups - 1))
  pub offset : IsSummary (offset_at m (anchor_in m stamps) (firsts_of n (slice_index timestamps))) groups x.offset
  pub latency : IsSummary (latency_at (firsts_of n (slice_index stamps)) (firsts_of n (slice_index timestamps))) groups
      x.latency
  pub gap : MatchOption x.gap (length stamps ≤ 1) (AreGapsOf (slice_index stamps) (length stamps))
