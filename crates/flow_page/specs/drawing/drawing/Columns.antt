-- The state of the columns of a run after the packets that they were fed, with their capture timestamps in nanoseconds
-- of TAI, and their RTP timestamps in ticks of 90 kHz. n is the number of packets per frame or field.
use Rattle.std.specs.Prelude.{◌≡◌, ◌<◌, ◌-◌, ℕ, ℤ, true, false, List, length, slice_index}
use Rattle.timing_base.specs.Media.{Media}
use Rattle.sender_params.specs.Reads.{anchor_of}
use Rattle.flow_measure.specs.Groups.{firsts_of, lasts_of, latency_at, offset_at, since_at}
use Rattle.flow_measure.specs.Metered.{AreBuckets, AreListed}
use Rattle.flow_measure.specs.Occupancy.{AreOccupancies}
use Rattle.flow_measure.specs.Run.{anchor_in}
use Rattle.flow_measure.specs.Stands.{DrawsCurve, DrawsEye}
use Rattle.flow_page.specs.declared.drawing.columns.RunColumns.{RunColumns}
use Rattle.flow_page.specs.declared.drawing.groups.Group.{Group}
use Rattle.flow_page.specs.declared.drawing.groups.GroupColumns.{GroupColumns}
use Rattle.flow_page.specs.declared.drawing.groups.GroupCurves.{GroupCurves}
use Rattle.flow_page.specs.declared.drawing.packets.LevelColumns.{LevelColumns}
use Rattle.flow_page.specs.declared.drawing.packets.PacketColumns.{PacketColumns}

-- the columns of one level were fed the first of these numbers
pub record DrawsLevel (c : LevelColumns) (level : ℕ → ℤ) : Type 0 where
  pub curve_draws : DrawsCurve (λ x. x) c.curve level
  pub eye_draws : DrawsEye (λ x. x) c.eye level

-- the columns of packets were fed the packets with these capture timestamps
pub record DrawsPackets (m : Media) (n : ℕ) (c : PacketColumns) (stamps : List ℕ) : Type 0 where
  pub n_is : c.n ≡ n
  pub seen_is : c.seen ≡ length stamps
  pub bucket_draws : (level : ℕ → ℤ) → AreBuckets m n stamps level → DrawsLevel c.bucket level
  pub gapped_draws : (level : ℕ → ℤ) → AreOccupancies m n stamps true level → DrawsLevel c.gapped level
  pub linear_draws : (level : ℕ → ℤ) → AreOccupancies m n stamps false level → DrawsLevel c.linear level

-- the columns of frames or fields were fed those with these capture timestamps of the first and last packets, and these
-- RTP timestamps
pub record DrawsCurves (m : Media) (anchor : ℤ) (c : GroupCurves) (first last timestamp : ℕ → ℕ) : Type 0 where
  pub first_draws : DrawsCurve (λ x. x) c.first (since_at m anchor first)
  pub drift_draws : DrawsCurve (λ x. x) c.drift (since_at m anchor first)
  pub last_draws : DrawsCurve (λ x. x) c.last (since_at m anchor last)
  pub offset_draws : DrawsCurve (λ x. x) c.offset (offset_at m anchor timestamp)
  pub latency_draws : DrawsCurve (λ x. x) c.latency (latency_at first timestamp)

-- `group` has the first packet of frame or field k
pub record HasBegun (n k : ℕ) (stamps timestamps : List ℕ) (group : Group) : Type 0 where
  pub came : group.first ≡ firsts_of n (slice_index stamps) k
  pub ticks : group.timestamp ≡ firsts_of n (slice_index timestamps) k

-- the state before and after `begin` for the next packet, which may be the first of a frame or field. The run's first
-- packet belongs to the nearest one of the grid from the epoch
pub record Begins (m : Media) (at ticks : ℕ) (old new : GroupColumns) : Type 0 where
  pub walk_is : new.walk ≡ old.walk
  pub first : old.walk.seen ≡ 0 → new.n0 ≡ anchor_of m at
  pub later : 0 < old.walk.seen → new.n0 ≡ old.n0
  pub came : old.walk.place ≡ 0 → new.group.first ≡ at
  pub ticks_are : old.walk.place ≡ 0 → new.group.timestamp ≡ ticks
  pub goes_on : 0 < old.walk.place → new.group ≡ old.group
  pub curves_are : new.curves ≡ old.curves

-- the columns of frames or fields were fed the packets with these capture timestamps and RTP timestamps
pub record DrawsGroups (m : Media) (n : ℕ) (c : GroupColumns) (stamps timestamps : List ℕ) : Type 0 where
  pub n_is : c.walk.n ≡ n
  pub seen_is : c.walk.seen ≡ length stamps
  pub same : length timestamps ≡ length stamps
  pub anchor_is : 0 < length stamps → c.n0 ≡ anchor_in m stamps
  pub begun : 0 < c.walk.place → HasBegun n c.walk.group stamps timestamps c.group
  pub curves_draw : (stamp timestamp : ℕ → ℕ) → AreListed stamps stamp → AreListed timestamps timestamp
      → DrawsCurves m c.n0 c.curves (firsts_of n stamp) (lasts_of n stamp) (firsts_of n timestamp)

-- the columns were fed exactly the packets with these capture timestamps and RTP timestamps
pub record Draws (m : Media) (n : ℕ) (x : RunColumns) (stamps timestamps : List ℕ) : Type 0 where
  pub packets_draw : DrawsPackets m n x.packets stamps
  pub groups_draw : DrawsGroups m n x.groups stamps timestamps
  pub first_is : 0 < length stamps → x.first_at ≡ slice_index stamps 0
  pub last_is : 0 < length stamps → x.last_at ≡ slice_index stamps (length stamps - 1)
