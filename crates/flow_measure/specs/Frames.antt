-- The frames or fields of a flow against the frame grid from the epoch, and their RTP timestamps against the media
-- clock. m is the video, and `anchor` is the number of the first packet's frame or field, counted from the epoch. The
-- k-th judged frame or field, from 0, has the number anchor + k. Instants are nanoseconds of TAI, RTP timestamps ticks
-- of 90 kHz (RFC 4175, section 4.1; SMPTE ST 2110-10, media clock). By the standard, number 0 begins at the epoch.
use Rattle.std.specs.Prelude.{◌+◌, ◌-◌, ◌%◌, ◌^◌, ℕ, ℤ, pos, ◌+ℤ◌, ◌-ℤ◌}
use Rattle.std.specs.Int.{int_rem_euclid}
use Rattle.fraction128.specs.Fractions.{Fraction, divided, floor, minus, scaled, whole}
use Rattle.timing_base.specs.Media.{Media}
use Rattle.sender_params.specs.Times.{group_time}

-- the instant at which the k-th judged frame or field begins
abbrev pub frame_start : Media → (anchor : ℤ) → ℕ → Fraction
frame_start m anchor k = scaled (anchor +ℤ pos k) (group_time m)

-- the nanoseconds from that instant to `at`, rounded down; below 0 if `at` is earlier
abbrev pub after_start : Media → (anchor : ℤ) → (k at : ℕ) → ℤ
after_start m anchor k at = floor (minus (whole at) (frame_start m anchor k))

-- the ticks of the media clock from the epoch to an instant: 9 ticks in 100,000 ns
abbrev pub clock_at : Fraction → ℤ
clock_at t = floor (divided t (100000, 9))

-- a difference of RTP timestamps, which count modulo 2^32, reduced to -2^31 to 2^31 - 1
abbrev pub wrapped : ℤ → ℤ
wrapped z = int_rem_euclid (z +ℤ pos (2 ^ 31)) (pos (2 ^ 32)) -ℤ pos (2 ^ 31)

-- the ticks by which the RTP timestamp of the k-th frame or field exceeds the media clock at the instant at which it
-- begins
abbrev pub timestamp_offset : Media → (anchor : ℤ) → (k timestamp : ℕ) → ℤ
timestamp_offset m anchor k timestamp = wrapped (pos timestamp -ℤ clock_at (frame_start m anchor k))

-- the ticks from the RTP timestamp of a frame or field to its first packet
abbrev pub timestamp_latency : (at timestamp : ℕ) → ℤ
timestamp_latency at timestamp = wrapped (clock_at (whole at) -ℤ pos timestamp)

-- the ticks from one RTP timestamp to the next
abbrev pub timestamp_step : (before timestamp : ℕ) → ℕ
timestamp_step before timestamp = ((timestamp + 2 ^ 32) - before) % 2 ^ 32
