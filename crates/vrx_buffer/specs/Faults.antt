-- Violations of the model of the virtual receiver buffer by packets (SMPTE ST 2110-21), and the first of them. m is the
-- video, n the packets per frame or field, and stamps the capture timestamps of the judged packets, in nanoseconds of
-- TAI. Packets count from 0.
use Rattle.std.specs.Prelude.{◌≡◌, ◌<◌, ℕ, false, if◌then◌else◌, List, length, Option, Some, None}
use Rattle.timing_base.specs.Media.{Media}
use Rattle.timing_base.specs.declared.media.Kind.{Kind}
use Rattle.sender_params.specs.Keeps.{held_at, is_empty, is_over}
use Rattle.sender_params.specs.Limits.{gapped_of}
use Rattle.vrx_buffer.specs.declared.vrx.VrxFault.{VrxFault}
use Rattle.vrx_buffer.specs.declared.vrx.VrxFault.TheVariants.{Over, Empty}

-- the violation of the model of this sender type by packet i; overflow and underflow never meet at one packet
abbrev pub fault_at : Media → ℕ → List ℕ → Kind → ℕ → Option VrxFault
fault_at m n stamps kind i =
    if is_over m n stamps kind i then Some (Over i (held_at m n stamps (gapped_of kind) i))
    else if is_empty m n stamps kind i then Some (Empty i)
    else None

-- no packet violates the model of this sender type
abbrev pub BreaksNowhere : Media → ℕ → List ℕ → Kind → Type 0
BreaksNowhere m n stamps kind = (i : ℕ) → i < length stamps
    → (is_over m n stamps kind i ≡ false) × (is_empty m n stamps kind i ≡ false)

-- packet i has this violation, and no packet before it has one
pub record Begins (m : Media) (n : ℕ) (stamps : List ℕ) (kind : Kind) (fault : VrxFault) (i : ℕ) : Type 0 where
  pub within : i < length stamps
  pub breaks : fault_at m n stamps kind i ≡ Some fault
  pub first : (j : ℕ) → j < i → fault_at m n stamps kind j ≡ None

-- the first violation of all packets, or none
abbrev pub IsFirstFault : Media → ℕ → List ℕ → Kind → Option VrxFault → Type 0
IsFirstFault m n stamps kind None = (i : ℕ) → i < length stamps → fault_at m n stamps kind i ≡ None
IsFirstFault m n stamps kind (Some fault) = (i : ℕ) × Begins m n stamps kind fault i
