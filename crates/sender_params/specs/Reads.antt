-- The reads of the virtual receiver buffer (SMPTE ST 2110-21), in nanoseconds, as exact fractions. m is the video, n
-- the packets per frame or field, `anchor` the number of the frame or field of the first packet, and the schedule is
-- gapped or linear. Both schedules are the standard's. This project's own are the rounding to the nearest frame or
-- field, and that all reads are counted from the frame or field of the first packet.
use Rattle.std.specs.Prelude.{◌≤◌, ◌<◌, ◌/◌, ◌%◌, ℕ, ℤ, pos, ◌+ℤ◌, Bool}
use Rattle.fraction128.specs.Fractions.{Fraction, AtMost, Below, whole, scaled, plus, minus, divided, floor}
use Rattle.timing_base.specs.Media.{Media}
use Rattle.sender_params.specs.Times.{group_time, offset_time, read_step}

-- n0 = floor((a0 - TR_OFFSET) / T_GROUP + 1/2): the frame or field to which a first packet at a0 is nearest
abbrev pub anchor_of : Media → ℕ → ℤ
anchor_of m a0 = floor (plus (divided (minus (whole a0) (scaled (pos 1) (offset_time m))) (group_time m))
    (scaled (pos 1) (1, 2)))

-- read x, which is read j of frame or field k after the first: (anchor + k) * T_GROUP + TR_OFFSET + j * T_RS
abbrev pub read_of : Media → ℕ → ℤ → Bool → ℕ → Fraction
read_of m n anchor gapped x =
    plus (plus (scaled (anchor +ℤ pos (x / n)) (group_time m)) (scaled (pos 1) (offset_time m)))
    (scaled (pos (x % n)) (read_step m n gapped))

-- exactly the first `count` reads are due at the instant t
pub record AreDue (m : Media) (n : ℕ) (anchor : ℤ) (gapped : Bool) (t : Fraction) (count : ℕ) : Type 0 where
  pub due : (x : ℕ) → x < count → AtMost (read_of m n anchor gapped x) t
  pub ahead : (x : ℕ) → count ≤ x → Below t (read_of m n anchor gapped x)
