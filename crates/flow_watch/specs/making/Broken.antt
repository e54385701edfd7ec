-- Whether a packet breaks a limit of a sender type, by the levels just after it.
use Rattle.std.specs.Prelude.{ℕ, pos, int_lt, Bool, ◌||◌, nat_lt}
use Rattle.vrx_buffer.specs.declared.held.Held.{Held}

-- the bucket holds more than C_MAX packets, the buffer more than VRX_FULL, or the packet came after its own read
abbrev pub breaks_by : (c_max full bucket : ℕ) → Held → Bool
breaks_by c_max full bucket held =
    (nat_lt c_max bucket || int_lt (pos full) held.occupancy) || held.late
