-- The state of a `Vrx` after the packets that it was fed.
use Rattle.std.specs.Prelude.{◌≡◌, ◌≤◌, ◌<◌, ◌++◌, ◌∷◌, [], ℕ, List, length, slice_index}
use Rattle.read_schedule.specs.Stands.{IsDueAt}
use Rattle.read_schedule.specs.declared.schedule.Due.{Due}
use Rattle.sender_params.specs.Keeps.{held_at}
use Rattle.sender_params.specs.Limits.{gapped_of}
use Rattle.sender_params.specs.Reads.{anchor_of}
use Rattle.sender_params.specs.declared.params.Params.{Params}
use Rattle.vrx_buffer.specs.Faults.{IsFirstFault}
use Rattle.vrx_buffer.specs.declared.vrx.Vrx.{Vrx}

-- the buffer was fed exactly packets with these capture timestamps, as far as later calls depend on it
pub record StandsFor (params : Params) (v : Vrx) (stamps : List ℕ) : Type 0 where
  -- `peak` is the greatest occupancy, and 0 before the first packet
  pub peak_most : (k : ℕ) → k < length stamps → held_at params.media params.n stamps (gapped_of v.kind) k ≤ v.peak
  pub peak_reached : 0 < v.peak
      → (k : ℕ) × (k < length stamps) × (held_at params.media params.n stamps (gapped_of v.kind) k ≡ v.peak)
  pub fault : IsFirstFault params.media params.n stamps v.kind v.fault

-- the buffer was then fed the packets before and packet `packet`, with what is due at its instant
abbrev pub Takes : Params → (old new : Vrx) → (packet : ℕ) → Due → Type 0
Takes params old new packet due = (stamps : List ℕ) (at : ℕ) → packet ≡ length stamps → StandsFor params old stamps
    → IsDueAt params.media params.n (anchor_of params.media (slice_index (stamps ++ at ∷ []) 0)) (gapped_of old.kind)
    at due
    → StandsFor params new (stamps ++ at ∷ [])
