-- The times of a video that don't depend on the number of its packets, in whole nanoseconds and in ticks of 90 kHz
-- (RFC 4175, section 6). The exact times are those of `sender_params`; here they are rounded down unless stated.
use Rattle.std.specs.Prelude.{ℕ, ◌+◌, ◌-◌, ◌*◌, ◌/◌}
use Rattle.timing_base.specs.Media.{Media}
use Rattle.sender_params.specs.Times.{frame_time, group_time, groups_of, offset_time}

-- a time in whole nanoseconds
abbrev pub whole_ns : ℕ × ℕ → ℕ
whole_ns time = time.0 / time.1

-- T_FRAME
abbrev pub frame_ns : Media → ℕ
frame_ns m = whole_ns (frame_time m)

-- the time of a field of an interlaced video, or of a frame of a progressive one
abbrev pub group_ns : Media → ℕ
group_ns m = whole_ns (group_time m)

-- TR_OFFSET
abbrev pub offset_ns : Media → ℕ
offset_ns m = whole_ns (offset_time m)

-- the frames or fields in q seconds
abbrev pub groups_in_q : Media → ℕ
groups_in_q m = m.p * groups_of m

-- the step of the RTP timestamp from one frame or field to the next
abbrev pub least_step : Media → ℕ
least_step m = 90000 * m.q / groups_in_q m

-- the same step, rounded up
abbrev pub greatest_step : Media → ℕ
greatest_step m = (90000 * m.q + groups_in_q m - 1) / groups_in_q m
