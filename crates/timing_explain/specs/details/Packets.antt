-- The state of the details of a run after the packets that were taken, with their capture timestamps in nanoseconds of
-- TAI, and their packet records. n is the number of packets per frame or field.
use Rattle.std.specs.Prelude.{◌≡◌, ◌<◌, ◌-◌, ◌==◌, ℕ, ℤ, List, length, slice_index}
use Rattle.timing_base.specs.Media.{Media}
use Rattle.flow_measure.specs.Groups.{firsts_of}
use Rattle.flow_measure.specs.Metered.{AreBuckets, AreListed}
use Rattle.flow_measure.specs.Run.{anchor_in}
use Rattle.timing_explain.specs.details.Groups.{Begins, TimesGroups}
use Rattle.timing_explain.specs.details.Overfull.{CountAll}
use Rattle.timing_explain.specs.declared.details.packets.PacketDetails.{PacketDetails}

-- exactly these packets were taken
pub record Details (m : Media) (n : ℕ) (x : PacketDetails) (stamps records : List ℕ) : Type 0 where
  pub n_is : x.walk.n ≡ n
  pub seen_is : x.walk.seen ≡ length stamps
  pub same : length records ≡ length stamps
  pub overfull_counts : (bucket : ℕ → ℤ) (rec stamp : ℕ → ℕ) → AreBuckets m n stamps bucket → AreListed records rec
      → AreListed stamps stamp → CountAll m n x.overfull bucket rec stamp (length stamps)
  pub first_is : 0 < length stamps → x.groups.first_at ≡ slice_index stamps 0
  pub anchor_is : 0 < length stamps → x.groups.n0 ≡ anchor_in m stamps
  -- the last frame or field that began: the one of the next packet, or if that is the first of its own, the one before
  pub begun : 0 < x.walk.place → x.groups.group_at ≡ firsts_of n (slice_index stamps) x.walk.group
  pub ended : 0 < length stamps → x.walk.place ≡ 0
      → x.groups.group_at ≡ firsts_of n (slice_index stamps) (x.walk.group - 1)
  pub times_are : (stamp : ℕ → ℕ) → AreListed stamps stamp → TimesGroups m n x.groups stamp

-- the state before and after `begin` for the next packet at `at`, which may be the first of a frame or field
pub record MayBegin (m : Media) (at : ℕ) (old new : PacketDetails) : Type 0 where
  pub walk_is : new.walk ≡ old.walk
  pub overfull_is : new.overfull ≡ old.overfull
  pub begins : old.walk.place ≡ 0 → Begins m at (old.walk.seen == 0) old.groups new.groups
  pub goes_on : 0 < old.walk.place → new.groups ≡ old.groups
