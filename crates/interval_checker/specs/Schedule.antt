-- The reads of a schedule in parts of a nanosecond, from 480 frames or fields before 0 of TAI on. Read x is read x % n
-- of frame or field x / n.
use Rattle.std.specs.Prelude.{◌≤◌, ◌+◌, ◌*◌, ◌/◌, ◌%◌, ◌↔◌, ℕ, ℤ, Bool}
use Rattle.fraction128.specs.Fractions.{AtMost, whole}
use Rattle.timing_base.specs.Media.{Media}
use Rattle.sender_params.specs.Reads.{read_of}
use Rattle.interval_checker.specs.declared.reads.Reads.{Reads}

-- instant of read x, in parts
abbrev pub parts_at : Reads → ℕ → ℕ
parts_at r x = r.start + (x / r.n) * r.group + (x % r.n) * r.step

-- instant of the whole nanosecond t, in parts
abbrev pub parts_of : Reads → ℕ → ℕ
parts_of r t = t * r.den + 480 * r.group

-- these are the reads of this schedule of the video, with n packets per frame or field: each is before or after a whole
-- nanosecond exactly if the schedule's read is
pub record AreReads (m : Media) (n : ℕ) (anchor : ℤ) (gapped : Bool) (r : Reads) : Type 0 where
  pub before : (x t : ℕ) → AtMost (read_of m n anchor gapped x) (whole t) ↔ (parts_at r x ≤ parts_of r t)
  pub after : (x t : ℕ) → AtMost (whole t) (read_of m n anchor gapped x) ↔ (parts_of r t ≤ parts_at r x)
