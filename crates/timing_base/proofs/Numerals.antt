-- Decimal numerals of numbers that are worked by hand.
use Rattle.std.proofs.Common.{◌≡◌, ℕ, [], false, refl}
use Rattle.std.specs.Fmt.{digits, digits_onto}

-- a numeral, digit by digit
pub written_out : (n : ℕ) → digits 10 false n ≡ digits_onto 64 10 false n []
unfolding digits
written_out n = refl
