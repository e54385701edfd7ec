-- The state of the meters of a run's parts after the packets that they were fed. Packets are counted from 0.
use Rattle.std.specs.Prelude.{◌≡◌, ◌≤◌, ◌<◌, ◌+◌, ◌-◌, ℕ, ℤ, pos, Bool, Option}
use Rattle.timing_base.specs.Media.{Media}
use Rattle.timing_base.specs.declared.media.Kind.{Kind}
use Rattle.timing_base.specs.declared.media.Kind.TheVariants.{N, NL, W}
use Rattle.vrx_buffer.specs.declared.held.Held.{Held}
use Rattle.run_meter.specs.declared.level.Level.{Level}
use Rattle.flow_measure.specs.Bins.{is_above}
use Rattle.flow_measure.specs.Counts.{count_of}
use Rattle.flow_measure.specs.First.{IsFirst}
use Rattle.flow_measure.specs.Gaps.{gap_after}
use Rattle.flow_measure.specs.Groups.{latency_at, offset_at, since_at, step_after}
use Rattle.flow_measure.specs.Kinds.{Packets, breaks, place_below}
use Rattle.flow_measure.specs.Stands.{Classifies, Counts, CountsBroken, Summarizes}
use Rattle.flow_measure.specs.Summary.{IsSummary}
use Rattle.flow_measure.specs.declared.buffer.BufferMeter.{BufferMeter}
use Rattle.flow_measure.specs.declared.gaps.GapMeter.{GapMeter}
use Rattle.flow_measure.specs.declared.group_meter.GroupMeter.{GroupMeter}
use Rattle.flow_measure.specs.declared.kind.KindMeter.{KindMeter}
use Rattle.flow_measure.specs.declared.models.ModelMeters.{ModelMeters}
use Rattle.flow_measure.specs.declared.numbers.Place.{Place}
use Rattle.flow_measure.specs.declared.steps.StepMeter.{StepMeter}
use Rattle.flow_measure.specs.declared.summary.Summary.{Summary}

-- the summary of the times between packets in the meter
abbrev pub gap_summary : GapMeter → Summary
gap_summary meter = record {
  least = pos meter.least;
  greatest = pos meter.greatest;
  sum = pos (meter.end - meter.begin);
  first = pos meter.first;
  last = pos meter.last;
}

-- the meter was fed packets with these capture timestamps, none of which is below the one before
pub record MeasuresGaps (meter : GapMeter) (stamp : ℕ → ℕ) : Type 0 where
  pub begin_is : 0 < meter.seen → meter.begin ≡ stamp 0
  pub end_is : 0 < meter.seen → meter.end ≡ stamp (meter.seen - 1)
  pub ordered : meter.begin ≤ meter.end
  pub summary : 1 < meter.seen → IsSummary (λ i. pos (gap_after stamp i)) (meter.seen - 1) (gap_summary meter)
  pub classes_are : Classifies meter.classes (gap_after stamp)

-- the meter was fed frames or fields with these RTP timestamps
pub record MeasuresSteps (meter : StepMeter) (timestamp : ℕ → ℕ) : Type 0 where
  pub last : 0 < meter.seen → meter.last ≡ timestamp (meter.seen - 1)
  pub summary : Summarizes meter.summary (step_after timestamp)

-- the meter was fed frames or fields with these capture timestamps of the first and last packets, and these RTP
-- timestamps
pub record MeasuresGroups (m : Media) (anchor : ℤ) (meter : GroupMeter) (first last timestamp : ℕ → ℕ) : Type 0 where
  pub first_is : Summarizes meter.first (since_at m anchor first)
  pub last_is : Summarizes meter.last (since_at m anchor last)
  pub offset : Summarizes meter.offset (offset_at m anchor timestamp)
  pub latency : Summarizes meter.latency (latency_at first timestamp)
  pub step : MeasuresSteps meter.step timestamp

-- the meter was fed packets, of which these are late
abbrev pub CountsLate : BufferMeter → (late : ℕ → Bool) → Type 0
CountsLate b late = b.late ≡ count_of late b.occupancy.seen

-- the meter of a type's schedule was fed these packets
pub record MeasuresBuffer (b : BufferMeter) (p : Packets) : Type 0 where
  pub occupancy : Summarizes b.occupancy p.occupancy
  pub late_are : CountsLate b p.empty

-- packet i has these levels; the type has these limits
pub record IsLike (c_max full : ℕ) (p : Packets) (i : ℕ) (bucket : ℕ) (held : Held) : Type 0 where
  pub bucket_is : p.bucket i ≡ pos bucket
  pub occupancy_is : p.occupancy i ≡ held.occupancy
  pub overfull_is : p.overfull i ≡ is_above c_max (pos bucket)
  pub over_is : p.over i ≡ is_above full held.occupancy
  pub empty_is : p.empty i ≡ held.late

-- the packets from `from` to `to` - 1 have these levels
abbrev pub AreLike : (c_max full : ℕ) → Packets → (from to : ℕ) → (bucket : ℕ) → Held → Type 0
AreLike c_max full p from to bucket held = (i : ℕ) → from ≤ i → i < to → IsLike c_max full p i bucket held

-- packet i stands at this place of the capture
pub record StandsAt (p : Packets) (i : ℕ) (place : Place) : Type 0 where
  pub rec_is : p.rec i ≡ place.«record»
  pub stamp_is : p.stamp i ≡ place.stamp

-- the first packet that breaks a limit, of the first `count`, stands at this place
pub record FirstStands (p : Packets) (count : ℕ) (place : Option Place) : Type 0 where
  pub first : Option ℕ
  pub is : IsFirst (breaks p) count first
  pub place_is : place ≡ place_below p.rec p.stamp count first

-- the meter of a type with these limits, and frames or fields of n packets, was fed these packets
pub record MeasuresKind (n c_max full : ℕ) (meter : KindMeter) (p : Packets) : Type 0 where
  pub c_max_is : meter.bucket.limit ≡ c_max
  pub full_is : meter.buffer.limit ≡ full
  pub bucket_is : Counts meter.bucket p.bucket
  pub buffer_is : Counts meter.buffer p.occupancy
  pub broken_are : CountsBroken n meter.broken (breaks p) meter.bucket.seen
  pub overfull : IsFirst p.overfull meter.bucket.seen meter.first_bucket
  pub over : IsFirst p.over meter.bucket.seen meter.first_over
  pub empty : IsFirst p.empty meter.bucket.seen meter.first_empty
  pub named_is : FirstStands p meter.bucket.seen meter.named

-- the meter of a sender type
abbrev pub kind_in : Kind → ModelMeters → KindMeter
kind_in N x = x.narrow
kind_in NL x = x.narrow_linear
kind_in W x = x.wide

-- the meter of the schedule of a sender type
abbrev pub buffer_in : Kind → ModelMeters → BufferMeter
buffer_in N x = x.gapped
buffer_in NL x = x.linear
buffer_in W x = x.linear

-- the level of the buffer by the schedule of a sender type
abbrev pub held_in : Kind → Level → Held
held_in N level = level.gapped
held_in NL level = level.linear
held_in W level = level.linear

-- the meters were fed these packets, as seen by one type with these limits, except the last ones. Those wait: they have
-- equal levels, and the first of them stands at this place
pub record MeasuresType (kind : Kind) (n c_max full : ℕ) (x : ModelMeters) (p : Packets) : Type 0 where
  pub filled : Summarizes x.bucket p.bucket
  pub held_is : MeasuresBuffer (buffer_in kind x) p
  pub fed : MeasuresKind n c_max full (kind_in kind x) p
  pub like : AreLike c_max full p x.bucket.seen (x.bucket.seen + x.waits) x.level.bucket (held_in kind x.level)
  pub first : 0 < x.waits → StandsAt p x.bucket.seen x.place

-- packet i has these levels by the schedule of the type, and stands at this place
pub record Finds (kind : Kind) (c_max full : ℕ) (p : Packets) (i : ℕ) (level : Level) (place : Place) : Type 0 where
  pub like : IsLike c_max full p i level.bucket (held_in kind level)
  pub stands : StandsAt p i place
