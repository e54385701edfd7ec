-- Floors that are the same over another denominator.
use Rattle.std.proofs.Common.{◌≡◌, ◌≤◌, ◌<◌, ◌+◌, ◌-◌, ◌*◌, ◌/◌, ℕ, ℤ, pos, negsuc, ◌-ℤ◌, ◌≤ℤ◌, neg_ℤ, subst, inl, inr, ap, ◌∙◌, sym, arith}
use Rattle.std.proofs.Math.Nat.{div-le_self, div-mul-le_self, le_of_mul-le-mul_left, mul-le-mul_left}
use Rattle.std.proofs.lemmas.Bool.{cases_lt}
use Rattle.std.proofs.lemmas.Int.{ints}
use Rattle.std.proofs.lemmas.Nat.{div-add-mod', div-mul-add, le-div, mod_below}
use Rattle.fraction128.specs.Fractions.{floor_of_signed}

-- a quotient by its bounds
div-between : (y d q : ℕ) → q * d ≤ y → y < q * d + d → y / d ≡ q
div-between y d q low high =
    let e : y ≡ q * d + (y - q * d) = omega (arith, low) in
    ap (λ z. z / d) e ∙ div-mul-add q d (y - q * d) (omega (arith, low, high))

-- an order that holds of multiples
lt-of-mul : (d x y : ℕ) → d * x < d * y → x < y
lt-of-mul d x y h = elim (cases_lt x y) as (λ _. x < y) [
  | inl less ↦ less
  | inr more ↦ let k : d * y ≤ d * x = mul-le-mul_left d more in absurd (omega (arith, h, k))
]

-- a quotient over another denominator
pub quotient-scaled : (x y big small : ℕ) → 0 < big → 0 < small → small * x ≡ big * y → x / big ≡ y / small
quotient-scaled x y big small some few same =
    let q = x / big in
    let split = div-add-mod' x big in
    let left = mod_below x big some in
    let low : big * (q * small) ≤ big * y =
    (let k : small * (q * big) ≤ small * x = mul-le-mul_left small (omega (arith, split)) in omega (arith, k, same)) in
    let high : big * y < big * (q * small + small) =
    (let k : small * (x + 1) ≤ small * (q * big + big) = mul-le-mul_left small (omega (arith, split, left)) in omega (arith, k, same, few)) in
    sym (div-between y small q (le_of_mul-le-mul_left low some) (lt-of-mul big y (q * small + small) high))

-- the same of what lies below
quotient-below : (x y big small : ℕ) → 0 < big → 0 < small → small * (x + 1) ≡ big * (y + 1) → x / big ≡ y / small
quotient-below x y big small some few same =
    let q = x / big in
    let split = div-add-mod' x big in
    let left = mod_below x big some in
    let low : big * (q * small) < big * (y + 1) =
    (let k : small * (q * big) ≤ small * x = mul-le-mul_left small (omega (arith, split)) in omega (arith, k, same, few)) in
    let high : big * (y + 1) ≤ big * (q * small + small) =
    (let k : small * (x + 1) ≤ small * (q * big + big) = mul-le-mul_left small (omega (arith, split, left)) in omega (arith, k, same)) in
    sym (div-between y small q
    (omega (arith, lt-of-mul big (q * small) (y + 1) low))
    (omega (arith, le_of_mul-le-mul_left high some)))

-- a floor over another denominator
pub floor-scaled : (up down over under big small : ℕ) → 0 < big → 0 < small
    → small * up ≡ big * over
    → small * down ≡ big * under
    → floor_of_signed (pos up -ℤ pos down) big ≡ floor_of_signed (pos over -ℤ pos under) small
floor-scaled up down over under big small some few eu ed =
    elim (cases_lt up down) as (λ _. floor_of_signed (pos up -ℤ pos down) big ≡ floor_of_signed (pos over -ℤ pos under) small) [
      | inl less ↦
          let k : small * (up + 1) ≤ small * down = mul-le-mul_left small (omega (arith, less)) in
          let below : over < under = lt-of-mul big over under (omega (arith, k, eu, ed, few)) in
          let x = down - up - 1 in
          let y = under - over - 1 in
          let ex : pos up -ℤ pos down ≡ negsuc x = omega (arith, ints, less) in
          let ey : pos over -ℤ pos under ≡ negsuc y = omega (arith, ints, below) in
          let tx : small * (x + 1 + up) ≡ small * down = ap (λ z. small * z) (omega (arith, less)) in
          let ty : big * (y + 1 + over) ≡ big * under = ap (λ z. big * z) (omega (arith, below)) in
          ap (λ z. floor_of_signed z big) ex
          ∙ ap negsuc (quotient-below x y big small some few (omega (arith, tx, ty, eu, ed)))
          ∙ sym (ap (λ z. floor_of_signed z small) ey)
      | inr more ↦
          let k : small * down ≤ small * up = mul-le-mul_left small more in
          let j : big * under ≤ big * over = omega (arith, k, eu, ed) in
          let above : under ≤ over = le_of_mul-le-mul_left j some in
          let x = up - down in
          let y = over - under in
          let ex : pos up -ℤ pos down ≡ pos x = omega (arith, ints, more) in
          let ey : pos over -ℤ pos under ≡ pos y = omega (arith, ints, above) in
          let tx : small * (x + down) ≡ small * up = ap (λ z. small * z) (omega (arith, more)) in
          let ty : big * (y + under) ≡ big * over = ap (λ z. big * z) (omega (arith, above)) in
          ap (λ z. floor_of_signed z big) ex
          ∙ ap pos (quotient-scaled x y big small some few (omega (arith, tx, ty, eu, ed)))
          ∙ sym (ap (λ z. floor_of_signed z small) ey)
    ]

-- a quotient rises with what it is of
div-rises : (x y d : ℕ) → 0 < d → x ≤ y → x / d ≤ y / d
div-rises x y d some h = le-div (x / d) y d some (omega (arith, div-mul-le_self x d, h))

-- so does a floor
pub floor-rises : (x y : ℤ) (den : ℕ) → 0 < den → x ≤ℤ y → floor_of_signed x den ≤ℤ floor_of_signed y den
floor-rises (pos x) (pos y) den some h =
    let k : x / den ≤ y / den = div-rises x y den some (omega (arith, ints, h)) in omega (arith, ints, k)
floor-rises (pos x) (negsuc y) den some h = absurd (omega (arith, ints, h))
floor-rises (negsuc x) (pos y) den some h = omega (arith, ints)
floor-rises (negsuc x) (negsuc y) den some h =
    let k : y / den ≤ x / den = div-rises y x den some (omega (arith, ints, h)) in omega (arith, ints, k)

-- a floor is between what is taken away and what is there
pub floor-low : (up down den : ℕ) → 1 ≤ den → neg_ℤ (pos down) ≤ℤ floor_of_signed (pos up -ℤ pos down) den
floor-low up down den some = elim (cases_lt up down) as (λ _. neg_ℤ (pos down) ≤ℤ floor_of_signed (pos up -ℤ pos down) den) [
  | inl less ↦
      let x = down - up - 1 in
      let e : pos up -ℤ pos down ≡ negsuc x = omega (arith, ints, less) in
      let few : x / den ≤ x = div-le_self x den in
      let low : neg_ℤ (pos down) ≤ℤ negsuc (x / den) = omega (arith, ints, few, less) in
      subst (λ z. neg_ℤ (pos down) ≤ℤ floor_of_signed z den) (sym e) low
  | inr more ↦
      let x = up - down in
      let e : pos up -ℤ pos down ≡ pos x = omega (arith, ints, more) in
      let low : neg_ℤ (pos down) ≤ℤ pos (x / den) = omega (arith, ints) in
      subst (λ z. neg_ℤ (pos down) ≤ℤ floor_of_signed z den) (sym e) low
]

pub floor-high : (up down den : ℕ) → 1 ≤ den → floor_of_signed (pos up -ℤ pos down) den ≤ℤ pos up
floor-high up down den some = elim (cases_lt up down) as (λ _. floor_of_signed (pos up -ℤ pos down) den ≤ℤ pos up) [
  | inl less ↦
      let x = down - up - 1 in
      let e : pos up -ℤ pos down ≡ negsuc x = omega (arith, ints, less) in
      let high : negsuc (x / den) ≤ℤ pos up = omega (arith, ints) in
      subst (λ z. floor_of_signed z den ≤ℤ pos up) (sym e) high
  | inr more ↦
      let x = up - down in
      let e : pos up -ℤ pos down ≡ pos x = omega (arith, ints, more) in
      let few : x / den ≤ x = div-le_self x den in
      let high : pos (x / den) ≤ℤ pos up = omega (arith, ints, few) in
      subst (λ z. floor_of_signed z den ≤ℤ pos up) (sym e) high
]
