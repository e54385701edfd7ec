-- The state of a `Shaper` after the packets that it was fed.
use Rattle.std.specs.Prelude.{◌≡◌, ◌≤◌, ◌<◌, ◌+◌, ◌⊎◌, ℕ, ℤ, Bool, List, length, slice_index, Some, None}
use Rattle.fraction128.specs.Clocks.{StandsAt}
use Rattle.timing_base.specs.Media.{Media}
use Rattle.timing_base.specs.declared.media.Kind.{Kind}
use Rattle.sender_params.specs.declared.params.Params.{Params}
use Rattle.sender_params.specs.Limits.{c_max_of, gapped_of, vrx_full_of}
use Rattle.sender_params.specs.Reads.{anchor_of}
use Rattle.sender_params.specs.Ticks.{NeverFall}
use Rattle.read_schedule.specs.Stands.{IsNextAfter, StandsBy}
use Rattle.flow_shaper.specs.Plan.{Models, Plan, Shaped, load, models_of}
use Rattle.flow_shaper.specs.declared.departure.Late.{Late}
use Rattle.flow_shaper.specs.declared.meters.Meters.{Meters}
use Rattle.flow_shaper.specs.declared.shaper.Shaper.{Shaper}

-- just after packet i left, the bucket holds `count` packets, the greatest load of an interval that ends there; `begin`
-- is the latest start of an interval with this load
pub record IsCount (w : Models) (departures : List ℕ) (i count begin : ℕ) : Type 0 where
  pub most : (j : ℕ) → j ≤ i → load w departures j i (slice_index departures i) ≤ count
  pub begins : begin ≤ i
  pub begin_load : load w departures begin i (slice_index departures i) ≡ count
  pub latest : (j : ℕ) → j ≤ i → load w departures j i (slice_index departures i) ≡ count → j ≤ begin

-- the reads were counted at the last departure, or at an earlier one after which packet `packet` finds room
pub record HasLooked (m : Media) (n : ℕ) (anchor : ℤ) (gapped : Bool) (full : ℕ) (meters : Meters) (packet : ℕ)
    : Type 0 where
  pub looked : ℕ
  pub order : looked ≤ meters.last
  -- `read` was the first read after that
  pub read : IsNextAfter m n anchor gapped looked meters.read
  pub reads : StandsBy m n anchor gapped meters.schedule looked
  pub lately : meters.read.number + full ≤ packet → looked ≡ meters.last

-- packet i was the last to leave, of a flow that is shaped for this sender type; its first packet came at `origin` and
-- belongs to frame or field n0
pub record IsAfter (params : Params) (kind : Kind) (n0 : ℤ) (origin : ℕ) (meters : Meters)
    (arrivals departures : List ℕ) (i : ℕ) : Type 0 where
  pub first : slice_index arrivals 0 ≡ origin
  pub last : meters.last ≡ slice_index departures i
  pub count : IsCount (models_of params.media params.n kind origin) departures i meters.count meters.begin
  -- `tick` is the first tick after it left
  pub tick : StandsAt params.drain meters.tick origin meters.last
  pub read : HasLooked params.media params.n n0 (gapped_of kind) (vrx_full_of params.media params.n kind) meters (i + 1)
  -- if it was delayed, the next packet has to wait for a tick or a read
  pub waits : slice_index arrivals i < slice_index departures i
      → (c_max_of params.media params.n kind ≤ meters.count)
      ⊎ (meters.read.number + vrx_full_of params.media params.n kind ≤ i + 1)

-- the shaper was fed exactly packets with these arrivals, and they left at these departures, as far as later calls
-- depend on it
pub record StandsFor (params : Params) (s : Shaper) (arrivals departures : List ℕ) : Type 0 where
  pub ordered : NeverFall arrivals
  pub shaped : Shaped params.media params.n s.kind arrivals departures
  pub in_time : (i : ℕ) → i < length departures → slice_index departures i < s.end
  pub seen : s.seen ≡ length arrivals
  pub anchor : s.n0 ≡ anchor_of params.media s.origin
  pub going : s.late ≡ None
  pub fresh : length arrivals ≡ 0 → s.meters ≡ None
  pub fed : (i : ℕ) → length arrivals ≡ i + 1
      → (meters : Meters) × (s.meters ≡ Some meters) × IsAfter params s.kind s.n0 s.origin meters arrivals departures i

-- a packet that comes at this instant may be the next one: the first comes at the origin, and none comes before the
-- last
pub record CanFollow (s : Shaper) (arrivals : List ℕ) (at : ℕ) : Type 0 where
  pub first : length arrivals ≡ 0 → at ≡ s.origin
  pub later : (i : ℕ) → length arrivals ≡ i + 1 → slice_index arrivals i ≤ at

-- no plan lets packet i leave before `end`
abbrev pub NoneInTime : Params → Shaper → (arrivals : List ℕ) → (i : ℕ) → Type 0
NoneInTime params s arrivals i = (departures : List ℕ)
    → Plan params.media params.n s.kind arrivals departures → s.end ≤ slice_index departures i

-- a packet was late, and the shaper has stopped
abbrev pub HasStopped : Shaper → Late → Type 0
HasStopped s late = s.late ≡ Some late
