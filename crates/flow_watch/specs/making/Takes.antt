-- A `WatchMeter` before and after a packet, and before and after the end of a frame or field.
use Rattle.std.specs.Prelude.{◌≡◌, ◌<◌, ◌+◌, ◌*◌, ℕ, Bool, [], ◌∷◌, ◌++◌}
use Rattle.run_meter.specs.declared.level.Level.{Level}
use Rattle.vrx_buffer.specs.declared.held.Held.{Held}
use Rattle.flow_measure.specs.Broken.{broken_groups}
use Rattle.flow_measure.specs.Stands.{CountsBroken}
use Rattle.flow_watch.specs.making.Broken.{breaks_by}
use Rattle.flow_watch.specs.making.Peaks.{IsJoined, IsOfOne}
use Rattle.flow_watch.specs.declared.broken.TypeMeter.{TypeMeter}
use Rattle.flow_watch.specs.declared.meter.WatchMeter.{WatchMeter}
use Rattle.flow_watch.specs.declared.peaks.Peaks.{Peaks}
use Rattle.flow_watch.specs.declared.stretch.PerType.{PerType}
use Rattle.flow_watch.specs.declared.stretch.Stretch.{Stretch}

-- the limits of a type are the same
pub record KeepsLimits (old new : TypeMeter) : Type 0 where
  pub c_max_is : new.c_max ≡ old.c_max
  pub vrx_full_is : new.vrx_full ≡ old.vrx_full

-- the counter of a type took a packet with these levels
pub record TakesPacket (bucket : ℕ) (held : Held) (old new : TypeMeter) : Type 0 where
  pub limits : KeepsLimits old new
  pub whole : new.groups.whole ≡ old.groups.whole
  pub stands : (n : ℕ) (broken : ℕ → Bool) (seen : ℕ) → CountsBroken n old.groups broken seen
      → broken seen ≡ breaks_by old.c_max old.vrx_full bucket held → CountsBroken n new.groups broken (seen + 1)

-- the counter of a type ended a frame or field
pub record EndsType (old new : TypeMeter) : Type 0 where
  pub limits : KeepsLimits old new
  pub whole : new.groups.whole ≡ old.groups.whole + 1
  pub stands : (n : ℕ) (broken : ℕ → Bool) (seen : ℕ) → CountsBroken n old.groups broken seen
      → seen ≡ old.groups.whole * n + n → CountsBroken n new.groups broken seen

-- the meter took a packet with these levels, but for its place in the frame or field
pub record TakesLevel (level : Level) (old new : WatchMeter) : Type 0 where
  pub run_is : new.run ≡ old.run
  pub walk_is : new.walk ≡ old.walk
  pub kept_is : new.kept ≡ old.kept
  pub first : old.walk.place ≡ 0 → IsOfOne level new.peaks
  pub later : 0 < old.walk.place → (here : Peaks) × IsOfOne level here × IsJoined old.peaks here new.peaks
  pub narrow_is : TakesPacket level.bucket level.gapped old.narrow new.narrow
  pub narrow_linear_is : TakesPacket level.bucket level.linear old.narrow_linear new.narrow_linear
  pub wide_is : TakesPacket level.bucket level.linear old.wide new.wide

-- C_MAX of each type
abbrev pub limits_in : WatchMeter → PerType
limits_in x = record { narrow = x.narrow.c_max; narrow_linear = x.narrow_linear.c_max; wide = x.wide.c_max }

-- `count` is the number of the complete frames or fields that break the type, whatever the packets of the counter are
abbrev pub CountsFor : TypeMeter → (count : ℕ) → Type 0
CountsFor x count =
    (n : ℕ) (broken : ℕ → Bool) (seen : ℕ) → CountsBroken n x.groups broken seen
    → count ≡ broken_groups n broken x.groups.whole

-- this is the last complete frame or field as a stretch of its own; its last packet came at this instant
pub record IsLastGroup (at : ℕ) (x : WatchMeter) (s : Stretch) : Type 0 where
  pub run_is : s.run ≡ x.run
  pub from_is : s.from ≡ x.walk.group
  pub to_is : s.to ≡ x.walk.group
  pub stamp_is : s.stamp ≡ at
  pub c_max_is : s.c_max ≡ limits_in x
  pub peaks_is : s.peaks ≡ x.peaks
  pub narrow_is : CountsFor x.narrow s.broken.narrow
  pub narrow_linear_is : CountsFor x.narrow_linear s.broken.narrow_linear
  pub wide_is : CountsFor x.wide s.broken.wide

-- the meter keeps the frame or field of the last packet, which came at this instant, as complete
pub record EndsGroup (at : ℕ) (old new : WatchMeter) : Type 0 where
  pub run_is : new.run ≡ old.run
  pub walk_is : new.walk ≡ old.walk
  pub narrow_is : EndsType old.narrow new.narrow
  pub narrow_linear_is : EndsType old.narrow_linear new.narrow_linear
  pub wide_is : EndsType old.wide new.wide
  pub peaks_is : new.peaks ≡ old.peaks
  pub group : Stretch
  pub group_is : IsLastGroup at new group
  pub kept_is : new.kept.items ≡ old.kept.items ++ group ∷ []
