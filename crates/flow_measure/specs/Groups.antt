-- Measurements of frames or fields: when their packets arrive, and their RTP timestamps. `stamp` gives the capture
-- timestamp of each packet in nanoseconds of TAI, and `timestamp` its RTP timestamp in ticks of 90 kHz, both counted
-- from 0. n is the number of packets per frame or field, and `anchor` is the number of the first one, counted from the
-- epoch of m.
use Rattle.std.specs.Prelude.{◌≡◌, ◌+◌, ◌-◌, ◌*◌, ℕ, ℤ, pos, MatchOption}
use Rattle.timing_base.specs.Media.{Media}
use Rattle.flow_measure.specs.Frames.{after_start, timestamp_latency, timestamp_offset, timestamp_step}
use Rattle.flow_measure.specs.Summary.{IsSummary}
use Rattle.flow_measure.specs.declared.group_meter.GroupNumbers.{GroupNumbers}

-- a value of each packet as a value of each frame or field: that of its first packet
abbrev pub firsts_of : (n : ℕ) → (ℕ → ℕ) → ℕ → ℕ
firsts_of n numbers k = numbers (k * n)

-- a value of each packet as a value of each frame or field: that of its last packet
abbrev pub lasts_of : (n : ℕ) → (ℕ → ℕ) → ℕ → ℕ
lasts_of n numbers k = numbers (k * n + (n - 1))

-- the nanoseconds from the instant at which frame or field k begins to a packet
abbrev pub since_at : Media → (anchor : ℤ) → (stamp : ℕ → ℕ) → ℕ → ℤ
since_at m anchor stamp k = after_start m anchor k (stamp k)

-- the ticks by which the RTP timestamp of frame or field k exceeds the media clock at the instant at which it begins
abbrev pub offset_at : Media → (anchor : ℤ) → (timestamp : ℕ → ℕ) → ℕ → ℤ
offset_at m anchor timestamp k = timestamp_offset m anchor k (timestamp k)

-- the ticks from the RTP timestamp of frame or field k to its first packet
abbrev pub latency_at : (stamp timestamp : ℕ → ℕ) → ℕ → ℤ
latency_at stamp timestamp k = timestamp_latency (stamp k) (timestamp k)

-- the ticks from the RTP timestamp of frame or field k to that of the next one
abbrev pub step_after : (timestamp : ℕ → ℕ) → ℕ → ℤ
step_after timestamp k = pos (timestamp_step (timestamp k) (timestamp (k + 1)))

-- the measurements of at least one frame or field, from the capture timestamps of its first and last packet and from
-- its RTP timestamp
pub record AreGroupNumbers (m : Media) (anchor : ℤ) (groups : ℕ) (first last timestamp : ℕ → ℕ) (x : GroupNumbers)
    : Type 0 where
  pub first_is : IsSummary (since_at m anchor first) groups x.first
  pub last_is : IsSummary (since_at m anchor last) groups x.last
  pub offset : IsSummary (offset_at m anchor timestamp) groups x.offset
  pub latency : IsSummary (latency_at first timestamp) groups x.latency
  pub step : MatchOption x.step (groups - 1 ≡ 0) (IsSummary (step_after timestamp) (groups - 1))
