-- The state of a `RowMaker` after the judged packets of a run that it was fed. m is the video, n the packets per frame
-- or field, `run` the number of the run, and `shift` that of the capture timestamps.
use Rattle.std.specs.Prelude.{◌≡◌, ◌<◌, ◌≤◌, ◌*◌, ◌^◌, ℕ, zero, suc, ℤ, pos, true, false, List, [], ◌∷◌, ◌++◌}
use Rattle.std.specs.Prelude.{length, slice_index, Option, Some, None}
use Rattle.timing_base.specs.Shifts.{Shift}
use Rattle.sender_params.specs.Ticks.{NeverFall}
use Rattle.timing_base.specs.Flows.{packet}
use Rattle.timing_base.specs.Media.{Media}
use Rattle.timing_base.specs.declared.packet.FlowPacket.{FlowPacket}
use Rattle.run_meter.specs.Levels.{IsLevel}
use Rattle.run_meter.specs.Runs.{stamps_of, told_of}
use Rattle.flow_measure.specs.Groups.{firsts_of, latency_at, offset_at, since_at}
use Rattle.flow_measure.specs.Occupancy.{AreOccupancies, buckets_of}
use Rattle.flow_measure.specs.Packets.{timestamps_of}
use Rattle.flow_measure.specs.Run.{anchor_in}
use Rattle.flow_measure.specs.Summary.{IsGreatest, IsLeast}
use Rattle.flow_measure.specs.declared.report.rows.GroupRow.{GroupRow}
use Rattle.flow_measure.specs.rows.Rows.{step_before}
use Rattle.flow_measure.specs.declared.rows.maker.Kept.{Kept}
use Rattle.flow_measure.specs.declared.rows.maker.RowMaker.{RowMaker}

-- the kept values of the packet after these
pub record IsKept (m : Media) (shift : Shift) (n : ℕ) (before : List FlowPacket) (p : FlowPacket) (kept : Kept)
    : Type 0 where
  pub packet_is : kept.packet ≡ told_of shift p
  pub few : length before < 2 ^ 41
  pub rising : NeverFall (stamps_of shift (before ++ p ∷ []))
  pub level_is : IsLevel m n (stamps_of shift (before ++ p ∷ [])) (length before) kept.level

-- the packets of frame or field k before packet `to`
abbrev pub OfFront : (n k to : ℕ) → ℕ → Type 0
OfFront n k to i = (k * n ≤ i) × (i < to)

-- frame or field k has begun, and this row has all of its packets among the first `count`. For each packet, `stamp`
-- gives the capture timestamp, `records` the packet record, `timestamp` the RTP timestamp, and `bucket`, `gapped` and
-- `linear` the levels just after it
pub record IsBegun (m : Media) (n k count : ℕ) (anchor : ℤ) (stamp records timestamp : ℕ → ℕ)
    (bucket gapped linear : ℕ → ℤ) (r : GroupRow) : Type 0 where
  pub rec : r.rec ≡ firsts_of n records k
  pub stamp_is : r.stamp ≡ firsts_of n stamp k
  pub first : r.first ≡ since_at m anchor (firsts_of n stamp) k
  pub timestamp_is : r.timestamp ≡ firsts_of n timestamp k
  pub step : r.step ≡ step_before (firsts_of n timestamp) k
  pub offset : r.offset ≡ offset_at m anchor (firsts_of n timestamp) k
  pub latency : r.latency ≡ latency_at (firsts_of n stamp) (firsts_of n timestamp) k
  pub bucket_is : IsGreatest bucket (OfFront n k count) (pos r.bucket)
  pub gapped_least : IsLeast gapped (OfFront n k count) r.gapped_least
  pub gapped_is : IsGreatest gapped (OfFront n k count) r.gapped
  pub linear_least : IsLeast linear (OfFront n k count) r.linear_least
  pub linear_is : IsGreatest linear (OfFront n k count) r.linear

-- the RTP timestamp of the last of `groups` frames or fields
abbrev pub last_of : (timestamp : ℕ → ℕ) → (groups : ℕ) → Option ℕ
last_of timestamp zero = None
last_of timestamp (suc k) = Some (timestamp k)

-- the RTP timestamps of packets, by their places from 0
abbrev pub ticks_in : List FlowPacket → ℕ → ℕ
ticks_in packets = slice_index (timestamps_of packets)

-- the packet records of packets, by their places from 0
abbrev pub records_in : List FlowPacket → ℕ → ℕ
records_in packets i = (packet packets i).rec

-- the maker was fed exactly these packets
pub record StandsFor (m : Media) (shift : Shift) (run n : ℕ) (x : RowMaker) (packets : List FlowPacket) : Type 0 where
  pub run_is : x.row.run ≡ run
  pub n_is : x.walk.n ≡ n
  pub seen : x.walk.seen ≡ length packets
  pub anchor_is : 0 < length packets → x.n0 ≡ anchor_in m (stamps_of shift packets)
  -- the RTP timestamp of the last complete frame or field, and that of the current one
  pub over : x.walk.place ≡ 0 → x.before ≡ last_of (firsts_of n (ticks_in packets)) x.walk.group
  pub goes_on : 0 < x.walk.place → x.before ≡ Some (firsts_of n (ticks_in packets) x.walk.group)
  -- the occupancy of the buffer just after each packet
  pub gapped : ℕ → ℤ
  pub linear : ℕ → ℤ
  pub gapped_are : AreOccupancies m n (stamps_of shift packets) true gapped
  pub linear_are : AreOccupancies m n (stamps_of shift packets) false linear
  pub begun : 0 < x.walk.place → IsBegun m n x.walk.group (length packets) (anchor_in m (stamps_of shift packets))
      (slice_index (stamps_of shift packets)) (records_in packets) (ticks_in packets)
      (buckets_of m n (stamps_of shift packets)) gapped linear x.row
