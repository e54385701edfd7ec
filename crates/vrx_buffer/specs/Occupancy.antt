-- The occupancy of the virtual receiver buffer of SMPTE ST 2110-21 at each packet of a flow, which may be negative, and
-- the late packets. m is the video, n the packets per frame or field, and stamps the capture timestamps of the judged
-- packets, in nanoseconds of TAI. Packets count from 0. The schedule is gapped or linear. The model is the standard's.
-- This project's own is that a packet and a read at the same instant both count.
use Rattle.std.specs.Prelude.{◌≡◌, ◌+◌, ℕ, ℤ, pos, ◌-ℤ◌, Bool, List, slice_index}
use Rattle.fraction128.specs.Fractions.{Fraction, below, whole}
use Rattle.timing_base.specs.Media.{Media}
use Rattle.sender_params.specs.Reads.{AreDue, anchor_of, read_of}

-- occupancy x just after packet i: the packets up to i, less all reads that are due; negative if the reads are more
pub record IsOccupancy (m : Media) (n : ℕ) (stamps : List ℕ) (gapped : Bool) (i : ℕ) (x : ℤ) : Type 0 where
  pub reads : ℕ
  pub due : AreDue m n (anchor_of m (slice_index stamps 0)) gapped (whole (slice_index stamps i)) reads
  pub is : x ≡ pos (i + 1) -ℤ pos reads

-- instant of packet i's own read
abbrev pub own_read : Media → ℕ → List ℕ → Bool → ℕ → Fraction
own_read m n stamps gapped i = read_of m n (anchor_of m (slice_index stamps 0)) gapped i

-- whether packet i comes after its own read
abbrev pub is_late : Media → ℕ → List ℕ → Bool → ℕ → Bool
is_late m n stamps gapped i = below (own_read m n stamps gapped i) (whole (slice_index stamps i))
