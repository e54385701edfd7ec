-- Plans: departure times of a flow's packets with which neither the bucket nor the virtual receiver buffer of a sender
-- type ever holds too many (SMPTE ST 2110-21). m is the video, n the packets per frame or field. Arrivals and
-- departures are in nanoseconds of TAI; packets, ticks and reads count from 0. Both models are the standard's. This
-- project's own is to delay packets, as little as possible, with the ticks and the reads of the first arrival.
use Rattle.std.specs.Prelude.{◌≡◌, ◌≤◌, ◌<◌, ◌+◌, ◌-◌, ℕ, List, length, slice_index}
use Rattle.fraction128.specs.Fractions.{whole}
use Rattle.timing_base.specs.Media.{Media}
use Rattle.timing_base.specs.declared.media.Kind.{Kind}
use Rattle.sender_params.specs.Keeps.{due_among}
use Rattle.sender_params.specs.Limits.{c_max_of, vrx_full_of, gapped_of}
use Rattle.sender_params.specs.Reads.{anchor_of}
use Rattle.sender_params.specs.Ticks.{NeverFall, ticks_of}

-- both models of one flow and one sender type, with their upper limits
pub record Models : Type 0 where
  -- number of ticks up to an instant
  pub ticks : ℕ → ℕ
  -- the packets up to packet i, less the reads that are due at an instant; 0 if the reads are more
  pub held : (i at : ℕ) → ℕ
  -- C_MAX, in packets
  pub c_max : ℕ
  -- VRX_FULL, in packets
  pub vrx_full : ℕ

-- the models of a flow with a first packet that came at a0; only the first i + 1 reads matter, as in `held_at`
abbrev pub models_of : Media → ℕ → Kind → (a0 : ℕ) → Models
models_of m n kind a0 = record {
  ticks = ticks_of m n a0;
  held = λ i at. (i + 1) - due_among m n (anchor_of m a0) (gapped_of kind) (i + 1) (whole at);
  c_max = c_max_of m n kind;
  vrx_full = vrx_full_of m n kind;
}

-- the packets j to i, less the ticks after packet j left and up to the instant `at` at which packet i leaves; 0 if the
-- ticks are more
abbrev pub load : Models → List ℕ → (j i at : ℕ) → ℕ
load w departures j i at = (i - j + 1) - (w.ticks at - w.ticks (slice_index departures j))

-- each packet leaves when it came or later, and not before the packet before it, and both upper limits are kept
pub record IsPlan (w : Models) (arrivals departures : List ℕ) : Type 0 where
  pub each : length departures ≡ length arrivals
  pub after : (i : ℕ) → i < length arrivals → slice_index arrivals i ≤ slice_index departures i
  pub ordered : NeverFall departures
  pub bucket : (j i : ℕ) → j ≤ i → i < length departures
      → load w departures j i (slice_index departures i) ≤ w.c_max
  pub buffer : (i : ℕ) → i < length departures → w.held i (slice_index departures i) ≤ w.vrx_full

-- a plan in which each packet leaves no later than in any plan
pub record IsLeast (w : Models) (arrivals departures : List ℕ) : Type 0 where
  pub plan : IsPlan w arrivals departures
  pub least : (others : List ℕ) → IsPlan w arrivals others
      → (i : ℕ) → i < length arrivals → slice_index departures i ≤ slice_index others i

-- the departures are a plan for these arrivals
abbrev pub Plan : Media → ℕ → Kind → (arrivals departures : List ℕ) → Type 0
Plan m n kind arrivals departures = IsPlan (models_of m n kind (slice_index arrivals 0)) arrivals departures

-- the departures are the least plan for these arrivals
abbrev pub Shaped : Media → ℕ → Kind → (arrivals departures : List ℕ) → Type 0
Shaped m n kind arrivals departures = IsLeast (models_of m n kind (slice_index arrivals 0)) arrivals departures
