-- The next packets that a `Quiet` describes. Offsets are in microseconds, instants in parts of a nanosecond.
use Rattle.std.specs.Prelude.{◌≤◌, ◌<◌, ◌+◌, ◌-◌, ◌*◌, ◌/◌, ◌%◌, ◌^◌, ℕ}
use Rattle.read_schedule.specs.declared.grid.Grid.{Grid}
use Rattle.offset_window.specs.Parts.{parts_with}
use Rattle.offset_window.specs.declared.quiet.Quiet.{Quiet}
use Rattle.offset_window.specs.declared.window.WindowEnd.{WindowEnd}
use Rattle.offset_window.specs.declared.window.WindowEnd.TheVariants.{Absent, At}

-- offset with which a packet must not come after its own read, if the lower end is to stay; an absent end always stays
abbrev pub late_of : WindowEnd → ℕ
late_of Absent = 1000000
late_of (At micros binding) = micros

-- offset with which a packet must not come before the read that makes room for it, if the upper end is to stay
abbrev pub early_of : WindowEnd → ℕ
early_of Absent = 0
early_of (At micros binding) = micros

-- the packet after the first `seen` came at this instant, in its span
pub record Holds (q : Quiet) (seen at : ℕ) : Type 0 where
  pub lasts : seen < q.until
  pub last : at + 2 ^ 49 ≤ q.front / 2 ^ 64
  pub first : q.front / 2 ^ 64 ≤ at + 2 ^ 49 + q.width

-- the next packet's span is from `first` to `last`: `front` is less than one part after `last`, and at least `width` +
-- 2 ns after `first`, one nanosecond for the rounding to whole ones, and one since `front` falls behind the reads by
-- less than 2^-64 ns with each packet
pub record IsBetween (g : Grid) (first last : ℕ) (q : Quiet) : Type 0 where
  pub step_low : q.step * g.den ≤ g.step * 2 ^ 64
  pub step_high : g.step * 2 ^ 64 ≤ q.step * g.den + g.den
  pub late : q.front * g.den < (last + 1) * 2 ^ 64
  pub early : (first + (q.width + 2) * g.den) * 2 ^ 64 ≤ q.front * g.den

-- after the first `seen` packets, each next packet up to `until` has its own read, and the read that makes room for it,
-- in the same frames or fields as the next packet; if it comes in its span, it doesn't come after its own read with the
-- offset `late`, nor before the read that makes room with the offset `early`
pub record IsQuiet (g : Grid) (late early seen : ℕ) (q : Quiet) : Type 0 where
  pub begun : q.back ≤ seen
  pub own_group : seen % g.n + (q.until - seen) < g.n
  pub freeing_group : (seen - q.back) % g.n + (q.until - seen) < g.n
  pub step_low : q.step * g.den ≤ g.step * 2 ^ 64
  pub step_high : g.step * 2 ^ 64 ≤ q.step * g.den + g.den
  pub late_is : q.front * g.den < (parts_with g late seen + 1) * 2 ^ 64
  pub early_is : (parts_with g early (seen - q.back) + (q.width + 1) * g.den) * 2 ^ 64 + (q.until - seen) * g.den
      ≤ q.front * g.den
