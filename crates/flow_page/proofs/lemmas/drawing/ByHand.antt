-- Four columns that are worked by hand.
use Rattle.std.proofs.Common.{◌<◌, ℕ, zero, suc, arith}

-- what is so of each of four
pub each-four : (P : ℕ → Type 0) → P 0 → P 1 → P 2 → P 3 → (c : ℕ) → c < 4 → P c
each-four P zeroth first second third zero few = zeroth
each-four P zeroth first second third (suc zero) few = first
each-four P zeroth first second third (suc (suc zero)) few = second
each-four P zeroth first second third (suc (suc (suc zero))) few = third
each-four P zeroth first second third (suc (suc (suc (suc c)))) few = absurd (omega (arith, few))
