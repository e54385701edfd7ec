-- The extremes of both models over packets, as they are made: of one packet, and of two parts.
use Rattle.std.specs.Prelude.{◌≡◌, ◌+◌, ◌-◌, ◌^◌, ℕ, max, min, cond}
use Rattle.std.specs.Int.{int_max, int_min}
use Rattle.vrx_buffer.specs.declared.held.Held.{Held}
use Rattle.run_meter.specs.declared.level.Level.{Level}
use Rattle.flow_watch.specs.declared.peaks.BufferRange.{BufferRange}
use Rattle.flow_watch.specs.declared.peaks.Peaks.{Peaks}

-- the range of one packet
abbrev pub range_of : Held → BufferRange
range_of held = record { least = held.occupancy; greatest = held.occupancy; late = cond held.late 1 0 }

-- the count of the late packets of two parts; at the end of 64 bits it stays
abbrev pub late_with : (late more : ℕ) → ℕ
late_with late more = min (late + more) (2 ^ 64 - 1)

-- the peaks of one packet, with both models at this level just after it
pub record IsOfOne (level : Level) (x : Peaks) : Type 0 where
  pub bucket_is : x.bucket ≡ level.bucket
  pub gapped_is : x.gapped ≡ range_of level.gapped
  pub linear_is : x.linear ≡ range_of level.linear

-- the range of the packets of two parts
pub record IsRangeOfBoth (a b x : BufferRange) : Type 0 where
  pub least : x.least ≡ int_min a.least b.least
  pub greatest : x.greatest ≡ int_max a.greatest b.greatest
  pub late : x.late ≡ late_with a.late b.late

-- the peaks of the packets of two parts
pub record IsJoined (a b x : Peaks) : Type 0 where
  pub bucket_is : x.bucket ≡ max a.bucket b.bucket
  pub gapped_are : IsRangeOfBoth a.gapped b.gapped x.gapped
  pub linear_are : IsRangeOfBoth a.linear b.linear x.linear
