-- The measurements of a gauge, up to a packet of the flow. Packets count from 0; times are nanoseconds of TAI.
use Rattle.std.specs.Prelude.{◌≡◌, ◌≤◌, ◌<◌, ℕ, ℤ, ⊤, Bool, true, false, List, [], ◌∷◌, ◌++◌, length}
use Rattle.std.specs.Prelude.{slice_index, Option, Some, None}
use Rattle.timing_base.specs.Shifts.{Shift}
use Rattle.fail_interval.specs.SoFar.{Groups as GroupsSoFar, SoFar, in_first, in_groups, in_head, so_far_at}
use Rattle.timing_base.specs.Judged.{RunOutcome, no_whole_frame, whole_frames}
use Rattle.timing_base.specs.Media.{Media}
use Rattle.timing_base.specs.declared.media.Kind.TheVariants.{N, NL, W}
use Rattle.timing_base.specs.declared.packet.FlowPacket.{FlowPacket}
use Rattle.sender_params.specs.Reads.{anchor_of}
use Rattle.sender_params.specs.declared.params.Params.{Params}
use Rattle.offset_window.specs.Stands.{StandsFor}
use Rattle.timing_reach.specs.Windows.{AreWindowsOf}
use Rattle.timing_reach.specs.declared.window.gauge.Gauge.{Gauge}
use Rattle.timing_reach.specs.declared.window.gauge.GroupGauge.{GroupGauge}
use Rattle.timing_reach.specs.declared.window.gauge.Part.{Part}
use Rattle.timing_reach.specs.declared.window.gauge.Part.TheVariants.{First, Groups, Head, TooLarge}
use Rattle.timing_reach.specs.declared.window.meters.WindowMeters.{WindowMeters}
use Rattle.timing_reach.specs.declared.window.windows.Windows.{Windows}

-- the meters were given packets with these arrivals and no others; `anchor` is the number of the frame or field of the
-- first one
pub record AreFed (params : Params) (anchor : ℤ) (meters : WindowMeters) (stamps : List ℕ) : Type 0 where
  pub narrow : StandsFor params N anchor meters.narrow stamps
  pub narrow_linear : StandsFor params NL anchor meters.narrow_linear stamps
  pub wide : StandsFor params W anchor meters.wide stamps

-- the number of packets that were given
abbrev pub count_seen : WindowMeters → ℕ
count_seen meters = meters.narrow.seen

-- the whole frames or fields of the flow so far were measured: `meters` has all packets behind the first marker, and
-- `at_marker` those up to the last marker
pub record IsMetered (m : Media) (g : GroupGauge) (so_far : GroupsSoFar) : Type 0 where
  pub media : g.params.media ≡ m
  pub group : g.params.n ≡ so_far.n
  pub some : 1 ≤ length so_far.stamps
  pub begins : slice_index so_far.whole 0 ≡ slice_index so_far.stamps 0
  pub fed : AreFed g.params (anchor_of m (slice_index so_far.stamps 0)) g.meters so_far.stamps
  pub kept : AreFed g.params (anchor_of m (slice_index so_far.stamps 0)) g.at_marker so_far.whole

-- whether the first frame or field took the packet that came at this instant; it doesn't if it has 262,144 packets
-- already
abbrev pub HasPushed : (at : ℕ) → (old new : List ℕ) → Bool → Type 0
HasPushed at old new true = new ≡ old ++ at ∷ []
HasPushed at old new false = 262144 ≤ length old

-- the gauge has the state of the flow so far; or the first frame or field has more than 262,144 packets
abbrev pub HasCome : Media → Part → SoFar → Type 0
HasCome m Head (in_head head) = ⊤
HasCome m (First group) (in_first head stamps) = group.stamps.items ≡ stamps
HasCome m (Groups g) (in_groups so_far) = IsMetered m g so_far
HasCome m TooLarge (in_first head stamps) = 262144 < length stamps
HasCome m TooLarge (in_groups so_far) = 262144 < so_far.n
HasCome m _ _ = ⊥

-- the number of arrivals that are kept or were given to the meters
abbrev pub count_kept : Part → ℕ
count_kept Head = 0
count_kept (First group) = length group.stamps.items
count_kept (Groups g) = count_seen g.meters
count_kept TooLarge = 0

-- the windows of a run of whole frames or fields, unless these have more than 262,144 packets
abbrev pub AreWindowsIn : Media → RunOutcome → Option Windows → Type 0
AreWindowsIn m (no_whole_frame head) windows = ⊤
AreWindowsIn m (whole_frames run) (Some windows) = AreWindowsOf m run.n run.stamps windows
AreWindowsIn m (whole_frames run) None = 262144 < run.n

-- the packets were passed to the gauge of this media, and no others
pub record IsGauged (m : Media) (shift : Shift) (g : Gauge) (packets : List FlowPacket) : Type 0 where
  pub media : g.media ≡ m
  pub shift_is : g.shift ≡ shift
  pub come : HasCome m g.part (so_far_at packets shift 0 (length packets))

-- a bound on the number of arrivals in the gauge
abbrev pub count_gauged : Gauge → ℕ
count_gauged g = count_kept g.part

-- this packet was passed after those before
abbrev pub Passes : FlowPacket → (old new : Gauge) → Type 0
Passes p old new = (m : Media) (shift : Shift) (packets : List FlowPacket) → IsGauged m shift old packets
    → IsGauged m shift new (packets ++ p ∷ [])
