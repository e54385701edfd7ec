-- Numbers of calls, counted from 1, and counts of faults. Both have 64 bits.
use Rattle.std.specs.Prelude.{ℕ, ◌+◌, ◌-◌, ◌^◌, max, min, Bool, cond, nat_eq, List, Result, Ok, Err, true, false}
use Rattle.std.specs.List.{list_any}
use Rattle.timing_outside.specs.declared.shelf.OpenFault.{OpenFault}
use Rattle.timing_outside.specs.declared.shelf.OpenFault.TheVariants.{Failed, OutOfMemory}

-- one more, except at the end of 64 bits
abbrev pub raised : ℕ → ℕ
raised count = max count (min (count + 1) (2 ^ 64 - 1))

-- one more if the call failed, otherwise unchanged
abbrev pub raised_if : Bool → ℕ → ℕ
raised_if failed count = cond failed (raised count) count

-- the call with this number is to fail
abbrev pub is_planned : List ℕ → ℕ → Bool
is_planned fails number = list_any (λ n. nat_eq n number) fails

-- a fetch returned `Failed`
abbrev pub has_failed : {S : Type 0} → Result S OpenFault → Bool
has_failed (Ok s) = false
has_failed (Err Failed) = true
has_failed (Err OutOfMemory) = false
