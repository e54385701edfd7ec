-- Lists of five, worked by hand.
use Rattle.std.proofs.Common.{◌<◌, ℕ, zero, suc, arith}

-- what holds of each of five
pub five : (P : ℕ → Type 0) → P 0 → P 1 → P 2 → P 3 → P 4 → (i : ℕ) → i < 5 → P i
five P a b c d e zero few = a
five P a b c d e (suc zero) few = b
five P a b c d e (suc (suc zero)) few = c
five P a b c d e (suc (suc (suc zero))) few = d
five P a b c d e (suc (suc (suc (suc zero)))) few = e
five P a b c d e (suc (suc (suc (suc (suc i))))) few = absurd (omega (arith, few))
