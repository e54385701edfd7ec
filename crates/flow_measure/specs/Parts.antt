-- The reads of a schedule as whole numbers, in parts of a nanosecond from 480 frames or fields before 0 of TAI. Read x
-- is read x % n of frame or field x / n. m is the video, n the packets per frame or field, and `anchor` the number of
-- the frame or field of read 0, counted from the epoch.
use Rattle.std.specs.Prelude.{◌≡◌, ◌+◌, ◌*◌, ◌/◌, ◌%◌, ℕ, ℤ, pos, ◌-ℤ◌, Bool, List, slice_index}
use Rattle.timing_base.specs.Media.{Media}
use Rattle.sender_params.specs.Sizes.{AreSizes, HavePer}

-- the instant of read x, with read 0 at `start`
abbrev pub parts_of_read : (start n group step x : ℕ) → ℕ
parts_of_read start n group step x = start + (x / n) * group + (x % n) * step

-- reads from `start` on are those of this schedule of the video
pub record AreReadsOf (m : Media) (n : ℕ) (anchor : ℤ) (gapped : Bool) (den start group step : ℕ) : Type 0 where
  pub have : HavePer m n gapped
  pub lifted : ℕ
  pub anchor_is : anchor ≡ pos lifted -ℤ pos 480
  pub offset : ℕ
  pub sizes : AreSizes m n gapped den group step offset
  pub start_is : start ≡ lifted * group + offset

-- the parts from packet i to its own read; below 0 if the packet is late
abbrev pub margin_in_parts : (den start n group step : ℕ) → List ℕ → ℕ → ℤ
margin_in_parts den start n group step stamps i =
    pos (parts_of_read start n group step i) -ℤ pos (slice_index stamps i * den + 480 * group)
