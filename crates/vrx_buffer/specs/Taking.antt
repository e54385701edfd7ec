-- The change of a `Vrx` by one packet.
use Rattle.std.specs.Prelude.{◌≡◌, ◌≤◌, ◌+◌, ◌-◌, max, ℕ, Bool, nat_lt, if◌then◌else◌, Option, Some, None}
use Rattle.timing_base.specs.declared.media.Kind.{Kind}
use Rattle.sender_params.specs.Limits.{vrx_full_of}
use Rattle.sender_params.specs.declared.params.Params.{Params}
use Rattle.vrx_buffer.specs.declared.vrx.Vrx.{Vrx}
use Rattle.vrx_buffer.specs.declared.vrx.VrxFault.{VrxFault}
use Rattle.vrx_buffer.specs.declared.vrx.VrxFault.TheVariants.{Over, Empty}

-- the earlier of two violations
abbrev pub earlier : Option VrxFault → Option VrxFault → Option VrxFault
earlier (Some fault) here = Some fault
earlier None here = here

-- the violation of a packet, by the occupancy after it, and whether it is late
abbrev pub fault_by : Params → Kind → (packet held : ℕ) → (late : Bool) → Option VrxFault
fault_by params kind packet held late =
    if nat_lt (vrx_full_of params.media params.n kind) held then Some (Over packet held)
    else if late then Some (Empty packet)
    else None

-- while there is no fault, the peak is at most VRX_FULL
pub record IsWithin (params : Params) (v : Vrx) : Type 0 where
  pub within : v.fault ≡ None → v.peak ≤ vrx_full_of params.media params.n v.kind

-- the change by packet `packet`; `count` reads were due when it came, and `late` is whether it came after its own read
pub record Took (params : Params) (v w : Vrx) (packet count : ℕ) (late : Bool) (answer : Option VrxFault) : Type 0 where
  pub kind : w.kind ≡ v.kind
  pub peak : w.peak ≡ max v.peak ((packet + 1) - count)
  pub fault : w.fault ≡ earlier v.fault answer
  pub answer_is : answer ≡ fault_by params v.kind packet ((packet + 1) - count) late
