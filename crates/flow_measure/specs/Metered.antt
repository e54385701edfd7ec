-- The state of the meters of a run after the packets that they were fed. Each packet, counted from 0, has a capture
-- timestamp in nanoseconds of TAI, a packet record and an RTP timestamp.
use Rattle.std.specs.Prelude.{◌≡◌, ◌<◌, ◌*◌, ℕ, ℤ, true, false, List, length, slice_index, Option, None}
use Rattle.std.specs.List.{slice_index_or}
use Rattle.timing_base.specs.Media.{Media}
use Rattle.timing_base.specs.declared.media.Kind.{Kind}
use Rattle.timing_base.specs.declared.media.Kind.TheVariants.{N, NL, W}
use Rattle.sender_params.specs.Limits.{c_max_of, gapped_of, vrx_full_of}
use Rattle.sender_params.specs.Reads.{anchor_of}
use Rattle.vrx_buffer.specs.Occupancy.{is_late}
use Rattle.run_meter.specs.Runs.{is_broken}
use Rattle.run_meter.specs.declared.run.RunPacket.{RunPacket}
use Rattle.flow_measure.specs.Bins.{is_above}
use Rattle.flow_measure.specs.Fed.{MeasuresGaps, MeasuresGroups, MeasuresType}
use Rattle.flow_measure.specs.First.{IsFirst}
use Rattle.flow_measure.specs.Groups.{firsts_of, lasts_of}
use Rattle.flow_measure.specs.Kinds.{Packets}
use Rattle.flow_measure.specs.Margins.{Times, read_in}
use Rattle.flow_measure.specs.Occupancy.{AreOccupancies, buckets_of}
use Rattle.flow_measure.specs.Offsets.{MeasuresWindows}
use Rattle.flow_measure.specs.Run.{anchor_in}
use Rattle.flow_measure.specs.declared.group_meter.Group.{Group}
use Rattle.flow_measure.specs.declared.meters.RunMeters.{RunMeters}

-- `numbers` gives the values of the list at each of its places
abbrev pub AreListed : List ℕ → (ℕ → ℕ) → Type 0
AreListed xs numbers = (i : ℕ) → i < length xs → numbers i ≡ slice_index xs i

-- `numbers` gives the count of the bucket just after each packet
abbrev pub AreBuckets : Media → ℕ → List ℕ → (numbers : ℕ → ℤ) → Type 0
AreBuckets m n stamps numbers = (i : ℕ) → i < length stamps → numbers i ≡ buckets_of m n stamps i

-- the values of each packet for a sender type
pub record ArePackets (m : Media) (n : ℕ) (stamps records : List ℕ) (kind : Kind) (p : Packets) : Type 0 where
  pub bucket : AreBuckets m n stamps p.bucket
  pub occupancy : AreOccupancies m n stamps (gapped_of kind) p.occupancy
  pub overfull : (i : ℕ) → i < length stamps → p.overfull i ≡ is_above (c_max_of m n kind) (p.bucket i)
  pub over : (i : ℕ) → i < length stamps → p.over i ≡ is_above (vrx_full_of m n kind) (p.occupancy i)
  pub empty : (i : ℕ) → i < length stamps → p.empty i ≡ is_late m n stamps (gapped_of kind) i
  pub rec : AreListed records p.rec
  pub stamp : AreListed stamps p.stamp

-- the state before and after `begin` for the next packet, which may be the first of a frame or field. The run's first
-- packet belongs to the nearest one of the grid from the epoch
pub record Begins (m : Media) (packet : RunPacket) (old new : RunMeters) : Type 0 where
  pub walk_is : new.walk ≡ old.walk
  pub first : old.walk.seen ≡ 0 → new.n0 ≡ anchor_of m packet.at
  pub later : 0 < old.walk.seen → new.n0 ≡ old.n0
  pub came : old.walk.place ≡ 0 → new.group.first ≡ packet.at
  pub ticks : old.walk.place ≡ 0 → new.group.timestamp ≡ packet.timestamp
  pub goes_on : 0 < old.walk.place → new.group ≡ old.group
  pub models_are : new.models ≡ old.models
  pub gapped_is : new.gapped ≡ old.gapped
  pub linear_is : new.linear ≡ old.linear
  pub groups_are : new.groups ≡ old.groups
  pub gaps_are : new.gaps ≡ old.gaps
  pub windows_are : new.windows ≡ old.windows

-- `group` has the first packet of frame or field k
pub record HasBegun (n k : ℕ) (stamps timestamps : List ℕ) (group : Group) : Type 0 where
  pub came : group.first ≡ firsts_of n (slice_index stamps) k
  pub ticks : group.timestamp ≡ firsts_of n (slice_index timestamps) k

-- the meters of a run were fed these packets
pub record Measures (m : Media) (n : ℕ) (x : RunMeters) (stamps records timestamps : List ℕ) : Type 0 where
  pub n_is : x.walk.n ≡ n
  pub seen : x.walk.seen ≡ length stamps
  pub records_are : length records ≡ length stamps
  pub timestamps_are : length timestamps ≡ length stamps
  pub anchor_is : 0 < length stamps → x.n0 ≡ anchor_in m stamps
  pub begun : 0 < x.walk.place → HasBegun n x.walk.group stamps timestamps x.group
  pub kinds : (kind : Kind) (p : Packets) → ArePackets m n stamps records kind p
      → MeasuresType kind n (c_max_of m n kind) (vrx_full_of m n kind) x.models p
  pub gapped_is : Times m n true x.gapped stamps (read_in n x.gapped (length stamps))
  pub linear_is : Times m n false x.linear stamps (read_in n x.linear (length stamps))
  pub groups_are : (stamp timestamp : ℕ → ℕ) → AreListed stamps stamp → AreListed timestamps timestamp
      → MeasuresGroups m x.n0 x.groups (firsts_of n stamp) (lasts_of n stamp) (firsts_of n timestamp)
  pub gaps_are : (stamp : ℕ → ℕ) → AreListed stamps stamp → MeasuresGaps x.gaps stamp
  pub windows_are : MeasuresWindows m n x.windows stamps

-- the first packets that break a limit, for N, NL and W in this order
pub record AreFirst (m : Media) (n : ℕ) (stamps : List ℕ) (named : List (Option ℕ)) : Type 0 where
  pub narrow : IsFirst (is_broken m n stamps N) (length stamps) (slice_index_or named 0 None)
  pub narrow_linear : IsFirst (is_broken m n stamps NL) (length stamps) (slice_index_or named 1 None)
  pub wide : IsFirst (is_broken m n stamps W) (length stamps) (slice_index_or named 2 None)
