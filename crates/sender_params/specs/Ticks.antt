-- The drain of the network compatibility model (SMPTE ST 2110-21). m is the video, n the packets per frame or field,
-- and stamps the capture timestamps of the judged packets, in nanoseconds. Packets count from 0. The drain is the
-- standard's. This project's own are the instants of its ticks, and that a tick at the instant of a packet comes before
-- the packet.
use Rattle.std.specs.Prelude.{◌+◌, ◌-◌, ◌*◌, ◌/◌, ◌≤◌, ◌<◌, ℕ, List, length, slice_index}
use Rattle.timing_base.specs.Media.{Media}
use Rattle.timing_base.specs.declared.media.Kind.{Kind}
use Rattle.sender_params.specs.Times.{drain_time}
use Rattle.sender_params.specs.Limits.{c_max_of}

-- number of ticks after a0 and up to `at`; the ticks are at a0 + T_DRAIN, a0 + 2 T_DRAIN and so on
abbrev pub ticks_of : Media → ℕ → ℕ → ℕ → ℕ
ticks_of m n a0 at = (at - a0) * (drain_time m n).1 / (drain_time m n).0

-- number of ticks from the first packet up to packet i
abbrev pub ticks_at : Media → ℕ → List ℕ → ℕ → ℕ
ticks_at m n stamps i = ticks_of m n (slice_index stamps 0) (slice_index stamps i)

-- the packets j to i, less the ticks after packet j and up to packet i; 0 if the ticks are more
abbrev pub load_of : Media → ℕ → List ℕ → ℕ → ℕ → ℕ
load_of m n stamps j i = (i - j + 1) - (ticks_at m n stamps i - ticks_at m n stamps j)

-- no interval of packets has a load above C_MAX of this type
abbrev pub KeepsBucket : Media → ℕ → List ℕ → Kind → Type 0
KeepsBucket m n stamps kind = (j i : ℕ) → j ≤ i → i < length stamps
    → load_of m n stamps j i ≤ c_max_of m n kind

-- the capture timestamps never go back
abbrev pub NeverFall : List ℕ → Type 0
NeverFall stamps = (j i : ℕ) → j ≤ i → i < length stamps → slice_index stamps j ≤ slice_index stamps i
