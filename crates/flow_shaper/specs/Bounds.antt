-- The cause of each departure time in a plan in which each packet leaves as early as it can. Packets and reads count
-- from
-- 0. The order of the four causes, and that they are reported at all, are this project's own.
use Rattle.std.specs.Prelude.{◌≡◌, ◌≢◌, ◌≤◌, ◌<◌, ◌-◌, ℕ, List, slice_index}
use Rattle.timing_base.specs.Media.{Media}
use Rattle.timing_base.specs.declared.media.Kind.{Kind}
use Rattle.flow_shaper.specs.Plan.{Models, load, models_of}
use Rattle.flow_shaper.specs.declared.departure.Bound.{Bound}
use Rattle.flow_shaper.specs.declared.departure.Bound.TheVariants.{Arrival, Bucket, Buffer, Order}

-- if packet i left at `at`, the load of some interval from a packet before it would be above C_MAX
abbrev pub Overloads : Models → List ℕ → (i at : ℕ) → Type 0
Overloads w departures i at = (j : ℕ) × (j < i) × (w.c_max < load w departures j i at)

-- if packet i left at `at`, the buffer would hold more than VRX_FULL packets
abbrev pub Overfills : Models → (i at : ℕ) → Type 0
Overfills w i at = w.vrx_full < w.held i at

-- the latest packet before packet i for which the load from it up to packet i is C_MAX
pub record IsLatestFull (w : Models) (departures : List ℕ) (i from : ℕ) : Type 0 where
  pub before : from < i
  pub full : load w departures from i (slice_index departures i) ≡ w.c_max
  pub latest : (j : ℕ) → j < i → load w departures j i (slice_index departures i) ≡ w.c_max → j ≤ from

-- the cause of packet i's departure time is the first of these: it leaves when it comes; a nanosecond earlier it would
-- overload the bucket; a nanosecond earlier it would overflow the buffer; it leaves with the packet before it
abbrev pub IsBound : Models → (arrivals departures : List ℕ) → (i : ℕ) → Bound → Type 0
IsBound w arrivals departures i Arrival = slice_index departures i ≡ slice_index arrivals i
IsBound w arrivals departures i (Bucket from) = (slice_index departures i ≢ slice_index arrivals i)
    × Overloads w departures i (slice_index departures i - 1)
    × IsLatestFull w departures i from
IsBound w arrivals departures i (Buffer read) = (slice_index departures i ≢ slice_index arrivals i)
    × (Overloads w departures i (slice_index departures i - 1) → ⊥)
    × Overfills w i (slice_index departures i - 1)
    × (read ≡ i - w.vrx_full)
IsBound w arrivals departures i Order = (slice_index departures i ≢ slice_index arrivals i)
    × (Overloads w departures i (slice_index departures i - 1) → ⊥)
    × (Overfills w i (slice_index departures i - 1) → ⊥)
    × (0 < i)
    × (slice_index departures i ≡ slice_index departures (i - 1))

-- the cause of packet i's departure time, for these arrivals and departures
abbrev pub BoundAt : Media → ℕ → Kind → (arrivals departures : List ℕ) → (i : ℕ) → Bound → Type 0
BoundAt m n kind arrivals departures i bound =
    IsBound (models_of m n kind (slice_index arrivals 0)) arrivals departures i bound
