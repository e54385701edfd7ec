-- A packet that changes nothing in a `Vrx`.
use Rattle.std.specs.Prelude.{◌≡◌, ◌-◌, ℕ, List, [], ◌∷◌, ◌++◌, length, slice_index, None}
use Rattle.fraction128.specs.Fractions.{AtMost, Below, whole}
use Rattle.sender_params.specs.Limits.{gapped_of}
use Rattle.sender_params.specs.Reads.{anchor_of, read_of}
use Rattle.sender_params.specs.declared.params.Params.{Params}
use Rattle.vrx_buffer.specs.declared.vrx.Vrx.{Vrx}

-- the packet at this instant, after those with these capture timestamps, comes when so many reads are due that it
-- raises no peak, and while there is no fault, before its own read
pub record IsQuiet (params : Params) (v : Vrx) (stamps : List ℕ) (at : ℕ) : Type 0 where
  pub due : AtMost (read_of params.media params.n (anchor_of params.media (slice_index (stamps ++ at ∷ []) 0))
      (gapped_of v.kind) (length stamps - v.peak)) (whole at)
  pub ahead : v.fault ≡ None
      → Below (whole at) (read_of params.media params.n (anchor_of params.media (slice_index (stamps ++ at ∷ []) 0))
      (gapped_of v.kind) (length stamps))
