-- The instants of a `Between`, by a schedule's reads. m is the video, n the packets per frame or field, `anchor` the
-- number of the frame or field of read 0, and the schedule is gapped or linear. Instants are whole nanoseconds of TAI.
use Rattle.std.specs.Prelude.{◌≤◌, ◌<◌, ◌+◌, ◌*◌, ◌^◌, ℕ, ℤ, Bool}
use Rattle.fraction128.specs.Fractions.{AtMost, Below, whole}
use Rattle.timing_base.specs.Media.{Media}
use Rattle.sender_params.specs.Reads.{read_of}
use Rattle.read_schedule.specs.declared.between.Between.{Between}

-- `at` is one of the instants
abbrev pub Holds : Between → ℕ → Type 0
Holds b at = (b.from ≤ at) × (at < b.from + b.wide)

-- `at` is one of the instants after j more reads
pub record HoldsAfter (b : Between) (j at : ℕ) : Type 0 where
  pub in_time : at < 2 ^ 62
  pub from : b.from + j * b.step ≤ at
  pub up_to : at < b.from + j * b.step + b.wide

-- for `left` packets, each of which goes on by a read, read `early` is due at each instant
pub record IsFrom (m : Media) (n : ℕ) (anchor : ℤ) (gapped : Bool) (early left : ℕ) (b : Between) : Type 0 where
  pub due : (j at : ℕ) → j < left → HoldsAfter b j at → AtMost (read_of m n anchor gapped (early + j)) (whole at)

-- for `left` packets, each of which goes on by a read, read `late` isn't due at any of the instants
pub record IsUpTo (m : Media) (n : ℕ) (anchor : ℤ) (gapped : Bool) (late left : ℕ) (b : Between) : Type 0 where
  pub ahead : (j at : ℕ) → j < left → HoldsAfter b j at → Below (whole at) (read_of m n anchor gapped (late + j))
