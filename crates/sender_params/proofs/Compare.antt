-- The numerator of a read, as the difference of two whole numbers.
use Rattle.std.proofs.Common.{◌≡◌, ◌≤◌, ◌<◌, ◌+◌, ◌*◌, ◌↔◌, ℕ, ap, arith, pos, ◌+ℤ◌, ◌-ℤ◌, ◌*ℤ◌}
use Rattle.std.proofs.lemmas.Int.{ints}
use Rattle.std.proofs.Math.Nat.{mul-le-mul_left, le_of_mul-le-mul_left}
use Rattle.sender_params.proofs.Floors.{sub-times}

-- (a - b + k) * gn / gd + on / od + j * sn / sd, over the denominator of all
pub read-difference : (a b k j gn gd on od sn sd : ℕ)
    → ((((((pos a -ℤ pos b) +ℤ pos k) *ℤ pos gn) *ℤ pos od) +ℤ ((pos 1 *ℤ pos on) *ℤ pos gd)) *ℤ pos sd) +ℤ ((pos j *ℤ pos sn) *ℤ pos (gd * od))
    ≡ pos ((((a + k) * gn) * od + on * gd) * sd + j * sn * (gd * od)) -ℤ pos (((b * gn) * od) * sd)
read-difference a b k j gn gd on od sn sd =
    let one : (pos 1 *ℤ pos on) *ℤ pos gd ≡ pos (on * gd) = ap pos (omega arith) in
    let group : (pos a -ℤ pos b) +ℤ pos k ≡ pos (a + k) -ℤ pos b = omega (arith, ints) in
    let first = sub-times (a + k) b gn in
    let second = sub-times ((a + k) * gn) (b * gn) od in
    let third : (pos ((a + k) * gn * od) -ℤ pos (b * gn * od)) +ℤ pos (on * gd) ≡ pos ((a + k) * gn * od + on * gd) -ℤ pos (b * gn * od) =
    omega (arith, ints) in
    let fourth = sub-times ((a + k) * gn * od + on * gd) (b * gn * od) sd in
    rw (one, group, first, second, third, fourth) (omega (arith, ints))

-- what is `den` times as much on one side is `by` times as much on the other
pub le-scaled : (den by x y p w : ℕ) → den * x ≡ by * p → den * y ≡ by * w → 0 < den → 0 < by → (x ≤ y) ↔ (p ≤ w)
le-scaled den by x y p w first second some many = (
  λ h.
      let product : den * x ≤ den * y = mul-le-mul_left den h in
      let other : by * p ≤ by * w = omega (arith, product, first, second) in
      le_of_mul-le-mul_left other many,
  λ h.
      let product : by * p ≤ by * w = mul-le-mul_left by h in
      let other : den * x ≤ den * y = omega (arith, product, first, second) in
      le_of_mul-le-mul_left other some,
)

-- a read in parts: its group, its offset and its place
pub read-scaled : (a k j gn gd on od sn sd den group offset step : ℕ)
    → group * gd ≡ gn * den
    → offset * od ≡ on * den
    → step * sd ≡ sn * den
    → den * ((((a + k) * gn) * od + on * gd) * sd + j * sn * (gd * od)) ≡ ((gd * od) * sd) * ((a + k) * group + offset + j * step)
read-scaled a k j gn gd on od sn sd den group offset step eg eo es =
    let g : (a + k) * (group * gd) * (od * sd) ≡ (a + k) * (gn * den) * (od * sd) = ap (λ y. (a + k) * y * (od * sd)) eg in
    let o : (offset * od) * (gd * sd) ≡ (on * den) * (gd * sd) = ap (λ y. y * (gd * sd)) eo in
    let s : j * (step * sd) * (gd * od) ≡ j * (sn * den) * (gd * od) = ap (λ y. j * y * (gd * od)) es in
    omega (arith, g, o, s)

-- an instant in parts, and b groups
pub instant-scaled : (b t gn gd od sd den group : ℕ)
    → group * gd ≡ gn * den
    → den * (t * ((gd * od) * sd) + ((b * gn) * od) * sd) ≡ ((gd * od) * sd) * (t * den + b * group)
instant-scaled b t gn gd od sd den group eg =
    let g : b * (group * gd) * (od * sd) ≡ b * (gn * den) * (od * sd) = ap (λ y. b * y * (od * sd)) eg in
    omega (arith, g)
