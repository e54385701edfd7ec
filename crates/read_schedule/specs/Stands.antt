-- The state of a `Schedule` after the capture timestamps that it was asked for. m is the video, n the packets per frame
-- or field, `anchor` the number of the frame or field of read 0, and the schedule is gapped or linear (SMPTE ST
-- 2110-21, read schedules).
use Rattle.std.specs.Prelude.{◌≡◌, ◌≤◌, ◌<◌, ◌+◌, ◌-◌, ◌*◌, ◌%◌, ◌^◌, ◌↔◌, ℕ, ℤ, Bool, false, cond, nat_lt}
use Rattle.fraction128.specs.Fractions.{AtMost, at_most, whole}
use Rattle.timing_base.specs.Media.{Media}
use Rattle.sender_params.specs.Reads.{AreDue, read_of}
use Rattle.read_schedule.specs.Parts.{AreAhead, ArePast, IsGridOf, parts_at}
use Rattle.read_schedule.specs.declared.schedule.Due.{Due}
use Rattle.read_schedule.specs.declared.schedule.NextRead.{NextRead}
use Rattle.read_schedule.specs.declared.schedule.Schedule.{Schedule}
use Rattle.read_schedule.specs.declared.schedule.Span.{Span}

-- whether the last of the `count` due reads is exactly at the whole nanosecond `at`
abbrev pub is_on_time : Media → ℕ → ℤ → Bool → ℕ → ℕ → Bool
is_on_time m n anchor gapped at count =
    cond (nat_lt 0 count) (at_most (whole at) (read_of m n anchor gapped (count - 1))) false

-- the reads that are due at the whole nanosecond `at`
pub record IsDueAt (m : Media) (n : ℕ) (anchor : ℤ) (gapped : Bool) (at : ℕ) (due : Due) : Type 0 where
  pub count : AreDue m n anchor gapped (whole at) due.count
  pub on_time : due.on_time ≡ is_on_time m n anchor gapped at due.count

-- number of reads of the frame or field from this one on
abbrev pub left_of : Schedule → ℕ → ℕ
left_of s read = s.grid.n - read % s.grid.n

-- the first read that isn't due at the whole nanosecond `at`, and when it is; the read after it is due at least one
-- nanosecond later
pub record IsNextAfter (m : Media) (n : ℕ) (anchor : ℤ) (gapped : Bool) (at : ℕ) (next : NextRead) : Type 0 where
  pub count : AreDue m n anchor gapped (whole at) next.number
  pub due : (t : ℕ) → t < 2 ^ 62 → AtMost (read_of m n anchor gapped next.number) (whole t) ↔ (next.at ≤ t)
  pub apart : (t : ℕ) → AtMost (read_of m n anchor gapped (next.number + 1)) (whole (t + 1))
      → AtMost (read_of m n anchor gapped next.number) (whole t)

-- the schedule has these reads, and those that it counted are due at the whole nanosecond `at`
pub record StandsBy (m : Media) (n : ℕ) (anchor : ℤ) (gapped : Bool) (s : Schedule) (at : ℕ) : Type 0 where
  pub grid : IsGridOf m n anchor gapped s.grid
  pub passed : (x : ℕ) → x < s.passed → AtMost (read_of m n anchor gapped x) (whole at)

-- the time from the next read of a schedule to the one after it, which has this position in its frame or field
pub record LeadsTo (s : Schedule) (place : ℕ) (span : Span) : Type 0 where
  pub reach : parts_at s.grid (s.passed + 1) ≡ parts_at s.grid s.passed + (span.whole * s.grid.den + span.part)
  pub left : span.part < s.grid.den
  pub some : 1 ≤ span.whole
  pub small : span.whole < 2 ^ 52
  pub place_is : (s.passed + 1) % s.grid.n ≡ place

-- the schedule counted all reads up to t, and no others if it had counted none after t
pub record CatchesUp (old new : Schedule) (t : ℕ) : Type 0 where
  pub grid : new.grid ≡ old.grid
  pub due : ArePast old.grid old.passed t → ArePast old.grid new.passed t
  pub ahead : AreAhead old.grid new.passed t

-- `told` is right for the schedule's reads at `at`, if the schedule was asked for no later instant before
abbrev pub Tells : {T : Type 0} → (Says : Media → ℕ → ℤ → Bool → ℕ → T → Type 0) → (old : Schedule) → (at : ℕ) → T
    → Type 0
Tells Says old at told = (m : Media) (n : ℕ) (anchor : ℤ) (gapped : Bool) (before : ℕ)
    → before ≤ at → StandsBy m n anchor gapped old before
    → Says m n anchor gapped at told

-- the schedule moved on to `at`, if it was asked for no later instant before
abbrev pub MovesTo : (old new : Schedule) → (at : ℕ) → Type 0
MovesTo old new at = Tells (λ m n anchor gapped at new. StandsBy m n anchor gapped new at) old at new
