-- The next departure, by the state of both models after those before it.
use Rattle.std.specs.Prelude.{◌≡◌, ◌≢◌, ◌≤◌, ◌<◌, ◌+◌, ◌-◌, ℕ, ℤ}
use Rattle.fraction128.specs.Clocks.{StandsAt, passed_by}
use Rattle.timing_base.specs.declared.media.Kind.{Kind}
use Rattle.sender_params.specs.declared.params.Params.{Params}
use Rattle.sender_params.specs.Limits.{gapped_of}
use Rattle.read_schedule.specs.Stands.{IsNextAfter, MovesTo, StandsBy, Tells}
use Rattle.flow_shaper.specs.declared.departure.Bound.{Bound}
use Rattle.flow_shaper.specs.declared.departure.Bound.TheVariants.{Arrival, Bucket, Buffer, Order}
use Rattle.flow_shaper.specs.declared.departure.Departure.{Departure}
use Rattle.flow_shaper.specs.declared.meters.Meters.{Meters}

-- the instant that sets the departure time d
abbrev pub IsChosen : Meters → (c_max vrx_full packet at d : ℕ) → Bound → Type 0
IsChosen meters c_max vrx_full packet at d Arrival = d ≡ at
IsChosen meters c_max vrx_full packet at d (Bucket from) = (d ≢ at)
    × (c_max ≤ meters.count)
    × (d ≡ meters.tick.due)
    × (from ≡ meters.begin)
IsChosen meters c_max vrx_full packet at d (Buffer read) = (d ≢ at)
    × (c_max ≤ meters.count → d ≢ meters.tick.due)
    × (meters.read.number + vrx_full ≤ packet)
    × (d ≡ meters.read.at)
    × (read ≡ packet - vrx_full)
IsChosen meters c_max vrx_full packet at d Order = (d ≢ at)
    × (c_max ≤ meters.count → d ≢ meters.tick.due)
    × (meters.read.number + vrx_full ≤ packet → d ≢ meters.read.at)
    × (d ≡ meters.last)

-- the departure of the packet that came at `at` is no earlier than any of these instants, and is one of them
pub record Chooses (meters : Meters) (c_max vrx_full packet at : ℕ) (d : Departure) : Type 0 where
  pub arrival : at ≤ d.at
  pub order : meters.last ≤ d.at
  pub bucket : c_max ≤ meters.count → meters.tick.due ≤ d.at
  pub buffer : meters.read.number + vrx_full ≤ packet → meters.read.at ≤ d.at
  pub chosen : IsChosen meters c_max vrx_full packet at d.at d.bound

-- the bucket after a packet, from that before it: it lost a packet for each tick since
pub record HasDrained (params : Params) (old new : Meters) (packet origin before at : ℕ) : Type 0 where
  pub drained : ℕ
  pub ticks : passed_by params.drain origin before + drained ≡ passed_by params.drain origin at
  pub tick : StandsAt params.drain new.tick origin at
  pub count : new.count ≡ (old.count - drained) + 1
  pub fresh : new.count ≡ 1 → new.begin ≡ packet
  pub kept : 1 < new.count → new.begin ≡ old.begin

-- the meters after the first packet, which left at `at`
pub record HaveStarted (params : Params) (kind : Kind) (n0 : ℤ) (at : ℕ) (meters : Meters) : Type 0 where
  pub last : meters.last ≡ at
  pub count : meters.count ≡ 1
  pub begin : meters.begin ≡ 0
  pub tick : StandsAt params.drain meters.tick at at
  pub read : IsNextAfter params.media params.n n0 (gapped_of kind) at meters.read
  pub reads : StandsBy params.media params.n n0 (gapped_of kind) meters.schedule at

-- the meters after a packet, which left at `at`, from those before it; the reads are counted again if the next packet
-- may have to wait for one
pub record HavePassed (params : Params) (full : ℕ) (old new : Meters) (packet at : ℕ) : Type 0 where
  pub last : new.last ≡ at
  pub bucket : (origin before : ℕ) → before ≤ at → StandsAt params.drain old.tick origin before
      → HasDrained params old new packet origin before at
  pub room : packet + 1 < old.read.number + full → (new.read ≡ old.read) × (new.schedule ≡ old.schedule)
  pub read : old.read.number + full ≤ packet + 1 → Tells IsNextAfter old.schedule at new.read
  pub reads : old.read.number + full ≤ packet + 1 → MovesTo old.schedule new.schedule at
