-- The offsets with which the packets of a flow would keep the virtual receiver buffer of SMPTE ST 2110-21. m is the
-- video, n the packets per frame or field, `anchor` the number of the frame or field of the first packet, and stamps
-- the capture timestamps of the judged packets, in nanoseconds of TAI. Packets count from 0. An offset is a whole
-- number of microseconds from 0 to 1,000,000, as TROFF gives it. The buffer and its reads are the standard's. The
-- window is this project's own: only the offset varies, while the frame or field of the first packet, the schedule and
-- the limits stay those of the video as described.
use Rattle.std.specs.Prelude.{◌≡◌, ◌+◌, ◌-◌, ◌≤◌, ◌<◌, ℕ, ℤ, Bool, true, false, nat_lt, List, length, slice_index}
use Rattle.std.specs.Prelude.{Option, Some, None}
use Rattle.fraction128.specs.Fractions.{Fraction, below, whole}
use Rattle.timing_base.specs.Media.{Media}
use Rattle.timing_base.specs.declared.media.Kind.{Kind}
use Rattle.sender_params.specs.Keeps.{due_among}
use Rattle.sender_params.specs.Limits.{gapped_of, vrx_full_of}
use Rattle.sender_params.specs.Reads.{anchor_of, read_of}
use Rattle.offset_window.specs.declared.window.Window.{Window}
use Rattle.offset_window.specs.declared.window.WindowEnd.{WindowEnd}
use Rattle.offset_window.specs.declared.window.WindowEnd.TheVariants.{Absent, At}

-- the video with this offset in place of its own
abbrev pub with_offset : Media → (micros : ℕ) → Media
with_offset m micros = record m { troff = Some micros }

-- read i with this offset: (anchor + k) * T_GROUP + 1000 * micros + j * T_RS
abbrev pub read_with : Media → ℕ → ℤ → Bool → (micros i : ℕ) → Fraction
read_with m n anchor gapped micros i = read_of (with_offset m micros) n anchor gapped i

-- with this offset packet i comes after its own read, at which the buffer underflows
abbrev pub is_empty_with : Media → ℕ → ℤ → List ℕ → Kind → (micros i : ℕ) → Bool
is_empty_with m n anchor stamps kind micros i =
    below (read_with m n anchor (gapped_of kind) micros i) (whole (slice_index stamps i))

-- occupancy of the buffer just after packet i with this offset: the packets up to i, less the reads due by then, and 0
-- if those are more. Only the first i + 1 reads matter: if they are all due, the buffer is empty.
abbrev pub held_with : Media → ℕ → ℤ → List ℕ → Bool → (micros i : ℕ) → ℕ
held_with m n anchor stamps gapped micros i =
    (i + 1) - due_among (with_offset m micros) n anchor gapped (i + 1) (whole (slice_index stamps i))

-- with this offset the buffer holds more than VRX_FULL packets just after packet i
abbrev pub is_over_with : Media → ℕ → ℤ → List ℕ → Kind → (micros i : ℕ) → Bool
is_over_with m n anchor stamps kind micros i =
    nat_lt (vrx_full_of m n kind) (held_with m n anchor stamps (gapped_of kind) micros i)

-- with this offset none of the first `count` packets violates the model; `broken` is whether a packet does with an
-- offset
abbrev pub Serves : (broken : ℕ → ℕ → Bool) → (count micros : ℕ) → Type 0
Serves broken count micros = (i : ℕ) → i < count → broken micros i ≡ false

-- with this offset packet i violates the model, and none before it does
pub record IsFirstBroken (broken : ℕ → ℕ → Bool) (count micros i : ℕ) : Type 0 where
  pub within : i < count
  pub here : broken micros i ≡ true
  pub first : (j : ℕ) → j < i → broken micros j ≡ false

-- the limit of an end: none if the end can't go on, else the first packet that violates the model with the offset
-- beyond it
abbrev pub Binds : (is_last goes_on : Type 0) → (broken : ℕ → ℕ → Bool) → (count beyond : ℕ) → Option ℕ → Type 0
Binds is_last goes_on broken count beyond None = is_last
Binds is_last goes_on broken count beyond (Some i) = goes_on × IsFirstBroken broken count beyond i

-- the limit of a lower end, which goes down to 0 by microseconds
abbrev pub BindsLower : (broken : ℕ → ℕ → Bool) → (count micros : ℕ) → Option ℕ → Type 0
BindsLower broken count micros binding = Binds (micros ≡ 0) (0 < micros) broken count (micros - 1) binding

-- the limit of an upper end, which goes up to 1,000,000 by microseconds
abbrev pub BindsUpper : (broken : ℕ → ℕ → Bool) → (count micros : ℕ) → Option ℕ → Type 0
BindsUpper broken count micros binding = Binds (micros ≡ 1000000) (micros < 1000000) broken count (micros + 1) binding

-- the smallest offset that works, and its limit
pub record IsLeast (broken : ℕ → ℕ → Bool) (count micros : ℕ) (binding : Option ℕ) : Type 0 where
  pub most : micros ≤ 1000000
  pub serves : Serves broken count micros
  pub least : (other : ℕ) → other < micros → Serves broken count other → ⊥
  pub binds : BindsLower broken count micros binding

-- the greatest offset that works, and its limit
pub record IsGreatest (broken : ℕ → ℕ → Bool) (count micros : ℕ) (binding : Option ℕ) : Type 0 where
  pub most : micros ≤ 1000000
  pub serves : Serves broken count micros
  pub greatest : (other : ℕ) → micros < other → other ≤ 1000000 → Serves broken count other → ⊥
  pub binds : BindsUpper broken count micros binding

-- no offset works
abbrev pub NoneServes : (broken : ℕ → ℕ → Bool) → (count : ℕ) → Type 0
NoneServes broken count = (micros : ℕ) → micros ≤ 1000000 → Serves broken count micros → ⊥

-- the lower end of a window; `broken` is the violation by an offset that is too small
abbrev pub IsLowerEnd : (broken : ℕ → ℕ → Bool) → (count : ℕ) → WindowEnd → Type 0
IsLowerEnd broken count Absent = NoneServes broken count
IsLowerEnd broken count (At micros binding) = IsLeast broken count micros binding

-- the upper end of a window; `broken` is the violation by an offset that is too great
abbrev pub IsUpperEnd : (broken : ℕ → ℕ → Bool) → (count : ℕ) → WindowEnd → Type 0
IsUpperEnd broken count Absent = NoneServes broken count
IsUpperEnd broken count (At micros binding) = IsGreatest broken count micros binding

-- the window of the packets for this sender type
pub record IsWindow (m : Media) (n : ℕ) (stamps : List ℕ) (kind : Kind) (w : Window) : Type 0 where
  pub lower : IsLowerEnd (is_empty_with m n (anchor_of m (slice_index stamps 0)) stamps kind) (length stamps) w.lower
  pub upper : IsUpperEnd (is_over_with m n (anchor_of m (slice_index stamps 0)) stamps kind) (length stamps) w.upper
