-- The reads of one schedule in parts of a nanosecond, from 2^49 ns before 0 on, so that none is negative. Read x is
-- read x % n of frame or field x / n.
use Rattle.std.specs.Prelude.{◌≤◌, ◌<◌, ◌+◌, ◌*◌, ◌/◌, ◌%◌, ◌^◌, ◌↔◌, ℕ, ℤ, Bool, Some}
use Rattle.fraction128.specs.Fractions.{AtMost, whole}
use Rattle.timing_base.specs.Media.{Media}
use Rattle.sender_params.specs.Reads.{read_of}
use Rattle.read_schedule.specs.declared.grid.Grid.{Grid}

-- instant of read x, in parts
abbrev pub parts_at : Grid → ℕ → ℕ
parts_at g x = g.start + (x / g.n) * g.group + (x % g.n) * g.step

-- instant of the whole nanosecond t, in parts
abbrev pub parts_of : Grid → ℕ → ℕ
parts_of g t = (t + 2 ^ 49) * g.den

-- the first `passed` reads are due at t, which is t * den parts
abbrev pub ArePast : Grid → (passed t : ℕ) → Type 0
ArePast g passed t = (x : ℕ) → x < passed → parts_at g x ≤ t * g.den

-- no read from read `passed` on is due at t
abbrev pub AreAhead : Grid → (passed t : ℕ) → Type 0
AreAhead g passed t = (x : ℕ) → passed ≤ x → t * g.den < parts_at g x

-- the reads are those of this schedule of the video, with n packets per frame or field: each is before or after a whole
-- nanosecond exactly if the schedule's read is
pub record IsGridOf (m : Media) (n : ℕ) (anchor : ℤ) (gapped : Bool) (g : Grid) : Type 0 where
  pub before : (x t : ℕ) → AtMost (read_of m n anchor gapped x) (whole t) ↔ (parts_at g x ≤ parts_of g t)
  pub after : (x t : ℕ) → AtMost (whole t) (read_of m n anchor gapped x) ↔ (parts_of g t ≤ parts_at g x)

-- with any TROFF added, in microseconds, the reads are those of the video with this TROFF in place of its own
pub record IsGridWithout (m : Media) (n : ℕ) (anchor : ℤ) (gapped : Bool) (g : Grid) : Type 0 where
  pub before : (micros x t : ℕ) → AtMost (read_of (record m { troff = Some micros }) n anchor gapped x) (whole t)
      ↔ (parts_at g x + 1000 * micros * g.den ≤ parts_of g t)
  pub after : (micros x t : ℕ) → AtMost (whole t) (read_of (record m { troff = Some micros }) n anchor gapped x)
      ↔ (parts_of g t ≤ parts_at g x + 1000 * micros * g.den)
