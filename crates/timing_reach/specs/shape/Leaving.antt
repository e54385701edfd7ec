-- The packets that a `Leaver` let leave. Packets count from 0; arrivals and departures are nanoseconds after the shift
-- of the flow.
use Rattle.std.specs.Prelude.{◌≡◌, ◌<◌, ℕ, List, [], ◌∷◌, ◌++◌, length, slice_index, Result, Ok, Err}
use Rattle.flow_shaper.specs.Bounds.{BoundAt}
use Rattle.flow_shaper.specs.Stands.{StandsFor}
use Rattle.flow_shaper.specs.declared.departure.Departure.{Departure}
use Rattle.flow_shaper.specs.declared.departure.Late.{Late}
use Rattle.sender_params.specs.Ticks.{NeverFall}
use Rattle.timing_base.specs.Media.{Media}
use Rattle.timing_base.specs.Shifts.{Shift}
use Rattle.timing_base.specs.declared.media.Kind.{Kind}
use Rattle.timing_reach.specs.Shapes.{IsLate, end_of}
use Rattle.timing_reach.specs.declared.shape.leaver.Leaver.{Leaver}

-- the flow that is shaped: packets of this media, `n` of them in each frame or field, for this sender type; the first
-- came at `origin`, after the shift
pub record Part : Type 0 where
  pub media : Media
  pub n : ℕ
  pub kind : Kind
  pub shift : Shift
  pub origin : ℕ

-- packets with these arrivals can be shaped: the arrivals never decrease, and the first one is the origin
pub record IsFit (origin : ℕ) (stamps : List ℕ) : Type 0 where
  pub ordered : NeverFall stamps
  pub first : 0 < length stamps → slice_index stamps 0 ≡ origin

-- the packets with these arrivals left at these departures, and no others
pub record HasLet (w : Part) (l : Leaver) (stamps departures : List ℕ) : Type 0 where
  pub media : l.params.media ≡ w.media
  pub group : l.params.n ≡ w.n
  pub kind : l.shaper.kind ≡ w.kind
  pub origin : l.shaper.origin ≡ w.origin
  pub end : l.shaper.end ≡ end_of w.shift
  pub shift : l.shift ≡ w.shift
  pub stands : StandsFor l.params l.shaper stamps departures

-- the number of packets that left
abbrev pub count_left : Leaver → ℕ
count_left l = l.shaper.seen

-- a packet that came at `at`, after these: it left at this departure, held back by this limit; or it is the first that
-- is late
abbrev pub LeavesSo : Part → (new : Leaver) → (stamps departures : List ℕ) → (at : ℕ) → Result Departure Late → Type 0
LeavesSo w new stamps departures at (Ok d) =
    BoundAt w.media w.n w.kind (stamps ++ at ∷ []) (departures ++ d.at ∷ []) (length stamps) d.bound
    × HasLet w new (stamps ++ at ∷ []) (departures ++ d.at ∷ [])
LeavesSo w new stamps departures at (Err late) =
    (late.packet ≡ length stamps) × IsLate w.media w.n w.kind (end_of w.shift) (stamps ++ at ∷ []) (length stamps)

-- the departure of a packet that came at `at`, after these packets, if all of them can be shaped
abbrev pub Leaves : Part → (new : Leaver) → (stamps departures : List ℕ) → (at : ℕ) → Result Departure Late → Type 0
Leaves w new stamps departures at result =
    IsFit w.origin (stamps ++ at ∷ []) → LeavesSo w new stamps departures at result
