-- State of the two models of SMPTE ST 2110-21 just after a packet. m is the video, n the packets per frame or field,
-- and stamps the capture timestamps of the judged packets of a run, in nanoseconds of TAI. Packets count from 0.
use Rattle.std.specs.Prelude.{◌≡◌, ℕ, Bool, true, false, List}
use Rattle.timing_base.specs.Media.{Media}
use Rattle.drain_bucket.specs.Word.{bucket_of}
use Rattle.vrx_buffer.specs.Occupancy.{IsOccupancy, is_late}
use Rattle.vrx_buffer.specs.declared.held.Held.{Held}
use Rattle.run_meter.specs.declared.level.Level.{Level}

-- the receiver buffer just after packet i, with the gapped or the linear reads: its occupancy, and whether packet i
-- came after its own read
pub record IsHeld (m : Media) (n : ℕ) (stamps : List ℕ) (gapped : Bool) (i : ℕ) (held : Held) : Type 0 where
  pub occupancy : IsOccupancy m n stamps gapped i held.occupancy
  pub late : held.late ≡ is_late m n stamps gapped i

-- the bucket and the receiver buffer just after packet i
pub record IsLevel (m : Media) (n : ℕ) (stamps : List ℕ) (i : ℕ) (level : Level) : Type 0 where
  pub bucket : level.bucket ≡ bucket_of m n stamps i
  pub gapped : IsHeld m n stamps true i level.gapped
  pub linear : IsHeld m n stamps false i level.linear
