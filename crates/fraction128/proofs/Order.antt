-- The order of fractions, and its tests.
use Rattle.std.proofs.Common.{◌≡◌, ◌⊎◌, true, false, arith, inl, inr}
use Rattle.std.proofs.lemmas.Int.{by_lt_z, ints}
use Rattle.fraction128.specs.Fractions.{AtMost, Below, Fraction, at_most}

-- of two fractions one is at most the other, or above it
pub fraction_cases : (x y : Fraction) → AtMost x y ⊎ Below y x
fraction_cases x y = by_lt_z _ _ inr inl

-- the test, where the one is at most the other, and where it isn't
pub at_most-true : (x y : Fraction) → AtMost x y → at_most x y ≡ true
at_most-true x y h = grind (arith, ints)

pub at_most-false : (x y : Fraction) → Below y x → at_most x y ≡ false
at_most-false x y h = grind (arith, ints)

-- what the test says
pub true-at_most : (x y : Fraction) → at_most x y ≡ true → AtMost x y
true-at_most x y h = grind (arith, ints)
