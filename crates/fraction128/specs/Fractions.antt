-- Exact fractions, with a whole numerator and a denominator above 0 wherever one is used. A fraction that isn't
-- negative is also written as the pair of its numerator and denominator.
use Rattle.std.specs.Prelude.{ℕ, ℤ, pos, negsuc, ◌*◌, ◌/◌, ◌+ℤ◌, ◌-ℤ◌, ◌*ℤ◌, ◌≤ℤ◌, ◌<ℤ◌, Bool, not, int_le}

-- num / den
pub record Fraction : Type 0 where
  pub num : ℤ
  pub den : ℕ

-- a / d, rounded towards minus infinity; `negsuc n` is -(n + 1)
abbrev pub floor_of_signed : ℤ → ℕ → ℤ
floor_of_signed (pos n) d = pos (n / d)
floor_of_signed (negsuc n) d = negsuc (n / d)

-- the greatest whole number that isn't above x
abbrev pub floor : Fraction → ℤ
floor x = floor_of_signed x.num x.den

-- the whole number n as a fraction
abbrev pub whole : ℕ → Fraction
whole n = record { num = pos n; den = 1 }

-- z times a / b
abbrev pub scaled : ℤ → ℕ × ℕ → Fraction
scaled z f = record { num = z *ℤ pos f.0; den = f.1 }

-- x + y
abbrev pub plus : Fraction → Fraction → Fraction
plus x y = record { num = (x.num *ℤ pos y.den) +ℤ (y.num *ℤ pos x.den); den = x.den * y.den }

-- x - y
abbrev pub minus : Fraction → Fraction → Fraction
minus x y = record { num = (x.num *ℤ pos y.den) -ℤ (y.num *ℤ pos x.den); den = x.den * y.den }

-- x divided by a / b
abbrev pub divided : Fraction → ℕ × ℕ → Fraction
divided x f = record { num = x.num *ℤ pos f.1; den = x.den * f.0 }

-- x is at most y
abbrev pub AtMost : Fraction → Fraction → Type 0
AtMost x y = (x.num *ℤ pos y.den) ≤ℤ (y.num *ℤ pos x.den)

-- x is less than y
abbrev pub Below : Fraction → Fraction → Type 0
Below x y = (x.num *ℤ pos y.den) <ℤ (y.num *ℤ pos x.den)

-- whether x is at most y
abbrev pub at_most : Fraction → Fraction → Bool
at_most x y = int_le (x.num *ℤ pos y.den) (y.num *ℤ pos x.den)

-- whether x is less than y
abbrev pub below : Fraction → Fraction → Bool
below x y = not (at_most y x)
