-- A packet and a read in parts of a nanosecond. The read is later by its offset.
use Rattle.std.specs.Prelude.{◌+◌, ◌*◌, ℕ, Bool, nat_lt}
use Rattle.read_schedule.specs.Parts.{parts_at, parts_of}
use Rattle.read_schedule.specs.declared.grid.Grid.{Grid}

-- instant of read i with an offset in microseconds, in parts; the grid has the offset 0
abbrev pub parts_with : Grid → (micros i : ℕ) → ℕ
parts_with g micros i = parts_at g i + 1000 * micros * g.den

-- whether a packet at t comes after read i with an offset
abbrev pub comes_after : Grid → (i t micros : ℕ) → Bool
comes_after g i t micros = nat_lt (parts_with g micros i) (parts_of g t)

-- whether a packet at t comes before read i with an offset
abbrev pub comes_before : Grid → (i t micros : ℕ) → Bool
comes_before g i t micros = nat_lt (parts_of g t) (parts_with g micros i)
