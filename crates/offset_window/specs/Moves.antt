-- The change of an end of a window by one packet. `broken` micros is whether the packet violates the model with that
-- offset, in microseconds.
use Rattle.std.specs.Prelude.{◌≡◌, ◌+◌, ◌-◌, ◌≤◌, ◌<◌, ◌⊎◌, ℕ, Bool, true, false, Option, Some}
use Rattle.offset_window.specs.declared.window.WindowEnd.{WindowEnd}
use Rattle.offset_window.specs.declared.window.WindowEnd.TheVariants.{Absent, At}

-- a lower end that this packet limits
pub record BindsFrom (broken : ℕ → Bool) (packet micros : ℕ) (binding : Option ℕ) : Type 0 where
  pub most : micros ≤ 1000000
  pub some : 0 < micros
  pub serves : broken micros ≡ false
  pub under : broken (micros - 1) ≡ true
  pub binds : binding ≡ Some packet

-- an upper end that this packet limits
pub record BindsUpTo (broken : ℕ → Bool) (packet micros : ℕ) (binding : Option ℕ) : Type 0 where
  pub serves : broken micros ≡ false
  pub above : broken (micros + 1) ≡ true
  pub binds : binding ≡ Some packet

-- the lower end for this packet alone, if it isn't 0
abbrev pub IsLowerBy : (ℕ → Bool) → ℕ → WindowEnd → Type 0
IsLowerBy broken packet Absent = (micros : ℕ) → micros ≤ 1000000 → broken micros ≡ true
IsLowerBy broken packet (At micros binding) = BindsFrom broken packet micros binding

-- the upper end for this packet alone, if it isn't 1,000,000
abbrev pub IsUpperBy : (ℕ → Bool) → ℕ → WindowEnd → Type 0
IsUpperBy broken packet Absent = (micros : ℕ) → micros ≤ 1000000 → broken micros ≡ true
IsUpperBy broken packet (At micros binding) = BindsUpTo broken packet micros binding

-- an end stays if the packet doesn't violate the model with it; else it becomes that of the packet
abbrev pub MovesBy : (ends : WindowEnd → Type 0) → (broken : ℕ → Bool) → WindowEnd → WindowEnd → Type 0
MovesBy ends broken Absent end = end ≡ Absent
MovesBy ends broken (At micros binding) end =
    ((broken micros ≡ false) × (end ≡ At micros binding)) ⊎ ((broken micros ≡ true) × ends end)
