-- The times of a sender of video (SMPTE ST 2110-21), in nanoseconds, each as a pair of numerator and denominator. m is
-- the video, n the packets per frame or field. Reads start anew with each frame or field, TR_OFFSET after its start. In
-- the names of definitions a group is a frame of a progressive picture or a field of an interlaced one. The times and
-- their names are the standard's. This project's own are all numbers: 10 / 11, the parts of a frame and the heights
-- from which they hold; and that an interlaced picture is timed by its fields.
use Rattle.std.specs.Prelude.{◌*◌, ℕ, Bool, cond, nat_le, Option, Some, None}
use Rattle.timing_base.specs.Media.{Media}

-- number of groups per frame: 2 if interlaced, else 1
abbrev pub groups_of : Media → ℕ
groups_of m = cond m.interlaced 2 1

-- N, the packets per frame
abbrev pub per_frame_of : Media → ℕ → ℕ
per_frame_of m n = groups_of m * n

-- T_FRAME: from one frame to the next
abbrev pub frame_time : Media → ℕ × ℕ
frame_time m = (m.q * 1000000000, m.p)

-- T_GROUP: from one frame or field to the next
abbrev pub group_time : Media → ℕ × ℕ
group_time m = (m.q * 1000000000, groups_of m * m.p)

-- T_DRAIN, (T_FRAME / N) * (10 / 11): from one tick of the bucket's drain to the next
abbrev pub drain_time : Media → ℕ → ℕ × ℕ
drain_time m n = (10 * m.q * 1000000000, 11 * m.p * per_frame_of m n)

-- R_ACTIVE: the part of the frame time in which a gapped sender sends
abbrev pub active_part : Media → ℕ × ℕ
active_part m = cond m.interlaced
    (cond (nat_le 1080 m.height) (1080, 1125) (cond (nat_le 576 m.height) (576, 625) (487, 525)))
    (1080, 1125)

-- the part of T_FRAME from the start of each frame or field to its first read
abbrev pub offset_part : Media → ℕ × ℕ
offset_part m = cond m.interlaced
    (cond (nat_le 1080 m.height) (22, 1125) (cond (nat_le 576 m.height) (26, 625) (20, 525)))
    (cond (nat_le 1080 m.height) (43, 1125) (28, 750))

-- TR_OFFSET, from the start of each frame or field to its first read: that part of T_FRAME, or TROFF, which is in
-- microseconds
abbrev pub offset_by : Media → Option ℕ → ℕ × ℕ
offset_by m (Some troff) = (1000 * troff, 1)
offset_by m None = ((offset_part m).0 * (m.q * 1000000000), (offset_part m).1 * m.p)

-- TR_OFFSET of this video
abbrev pub offset_time : Media → ℕ × ℕ
offset_time m = offset_by m m.troff

-- T_RS: from one read to the next within a frame or field, of the gapped or the linear schedule
abbrev pub read_step : Media → ℕ → Bool → ℕ × ℕ
read_step m n gapped = cond gapped
    (m.q * 1000000000 * (active_part m).0, m.p * (active_part m).1 * per_frame_of m n)
    (m.q * 1000000000, m.p * per_frame_of m n)
