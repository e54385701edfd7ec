-- The order of exact fractions.
use Rattle.std.proofs.Common.{◌≤◌, ◌<◌, ◌+◌, ◌*◌, ◌↔◌, ℕ, arith}
use Rattle.std.proofs.Math.Nat.{mul-le-mul_right, le_of_mul-le-mul_left, lt_of_mul-lt-mul_right}
use Rattle.fraction128.specs.Fractions.{AtMost, Below, Fraction}
use Rattle.read_schedule.proofs.Rising.{at_most-parts, below-parts, difference}

-- (a - b) / q is less than (c - d) / s by h / (q * s) or more, and that than (e - f) / v by k / (s * v) or more
chained : (a b q c d s e f v h k : ℕ)
    → a * s + d * q + h ≤ c * q + b * s
    → c * v + f * s + k ≤ e * s + d * v
    → (a * v + f * q) * s + (h * v + k * q) ≤ (e * q + b * v) * s
chained a b q c d s e f v h k first second =
    let one : (a * s + d * q + h) * v ≤ (c * q + b * s) * v = mul-le-mul_right v first in
    let two : (c * v + f * s + k) * q ≤ (e * s + d * v) * q = mul-le-mul_right q second in
    omega (arith, one, two)

-- a numerator is one whole number less another
up : Fraction → ℕ
up x = (difference x.num).0

down : Fraction → ℕ
down x = (difference x.num).1

-- the order of two fractions in whole numbers
at_most-is : (x y : Fraction) → AtMost x y ↔ (up x * y.den + down y * x.den ≤ up y * x.den + down x * y.den)
unfolding up down
at_most-is x y =
    let p = difference x.num in
    let q = difference y.num in
    at_most-parts p.0 p.1 x.den q.0 q.1 x.num y.num y.den p.2 q.2

below-is : (x y : Fraction) → Below x y ↔ (up x * y.den + down y * x.den < up y * x.den + down x * y.den)
unfolding up down
below-is x y =
    let p = difference x.num in
    let q = difference y.num in
    below-parts q.0 q.1 y.den p.0 p.1 y.num x.num x.den q.2 p.2

-- at most, then below
pub at_most-below : (x y z : Fraction) → 0 < x.den → AtMost x y → Below y z → Below x z
at_most-below x y z some h k =
    let all = chained (up x) (down x) x.den (up y) (down y) y.den (up z) (down z) z.den 0 1 (omega (arith, (at_most-is x y).0 h))
    (omega (arith, (below-is y z).0 k)) in
    (below-is x z).1 (lt_of_mul-lt-mul_right y.den (omega (arith, all, some)))

-- below, then at most
pub below-at_most : (x y z : Fraction) → 0 < z.den → Below x y → AtMost y z → Below x z
below-at_most x y z some h k =
    let all = chained (up x) (down x) x.den (up y) (down y) y.den (up z) (down z) z.den 1 0 (omega (arith, (below-is x y).0 h))
    (omega (arith, (at_most-is y z).0 k)) in
    (below-is x z).1 (lt_of_mul-lt-mul_right y.den (omega (arith, all, some)))

-- at most twice
pub at_most-at_most : (x y z : Fraction) → 0 < y.den → AtMost x y → AtMost y z → AtMost x z
at_most-at_most x y z some h k =
    let all = chained (up x) (down x) x.den (up y) (down y) y.den (up z) (down z) z.den 0 0 (omega (arith, (at_most-is x y).0 h))
    (omega (arith, (at_most-is y z).0 k)) in
    (at_most-is x z).1 (le_of_mul-le-mul_left (omega (arith, all)) some)
