-- The packets of a run that are taken for the region around the first one that breaks a sender type. Packets count from
-- 0.
use Rattle.std.specs.Prelude.{◌+◌, ◌-◌, ◌%◌, min, nat_le, cond, ℕ, pos, Bool, true, false, List, Option, Some, None}
use Rattle.std.specs.List.{slice_index_or}
use Rattle.run_meter.specs.declared.level.Level.{Level}

-- the first packet that breaks a limit, including the next packet
abbrev pub first_with : Option ℕ → (packet : ℕ) → (breaks : Bool) → Option ℕ
first_with None packet breaks = cond breaks (Some packet) None
first_with (Some first) packet breaks = Some first

-- the next packet is taken: it is at most fifty packets after the first one that breaks a limit, if there is one
abbrev pub is_open : Option ℕ → (taken : ℕ) → Bool
is_open None taken = true
is_open (Some first) taken = nat_le (taken - first) 50

-- the count of packets taken, of the first `count`
abbrev pub taken_of : Option ℕ → (count : ℕ) → ℕ
taken_of None count = count
taken_of (Some first) count = min count (first + 51)

-- a level of 0, where no packet was taken
abbrev pub no_level : Level
no_level = record {
  bucket = 0;
  gapped = record { occupancy = pos 0; late = false };
  linear = record { occupancy = pos 0; late = false };
}

-- the level just after packet i, if it is one of the last 400 taken
abbrev pub level_at : List Level → ℕ → Level
level_at ring i = slice_index_or ring (i % 400) no_level
