-- Floors of differences, and how far before 0 a first read may stand.
use Rattle.std.proofs.Common.{◌≡◌, ◌≤◌, ◌<◌, ◌+◌, ◌*◌, ◌/◌, ◌^◌, ◌-◌, ℕ, suc, inl, inr, arith, ap, ◌∙◌, pos, negsuc, ◌+ℤ◌, ◌-ℤ◌, ◌*ℤ◌, ◌≤ℤ◌, ◌<ℤ◌}
use Rattle.std.proofs.Math.Nat.{div-mul-le_self, mul-le-mul_right, mul_assoc}
use Rattle.std.proofs.lemmas.Bool.{cases_lt}
use Rattle.std.proofs.lemmas.Int.{ints}
use Rattle.std.proofs.Math.IntN.{negsuc-*ℤ-pos}
use Rattle.fraction128.specs.Fractions.{floor_of_signed}

pub within-troff : (x hp q : ℕ) → x ≤ 1000000 → hp ≤ 480 * q → 1000 * x * hp ≤ 480 * (1 * (q * 1000000000))
within-troff x hp q few most =
    let a : x * hp ≤ 1000000 * hp = mul-le-mul_right hp few in
    omega (arith, a, mul_assoc 1000 x hp, most)

pub within-part : (a b h p Q : ℕ) → a * h ≤ 480 * b → a * Q * (h * p) ≤ 480 * (b * p * Q)
within-part a b h p Q few =
    let s : (a * h) * (p * Q) ≤ (480 * b) * (p * Q) = mul-le-mul_right (p * Q) few in
    omega (arith, s)

-- a difference times a number
pub sub-times : (u d k : ℕ) → (pos u -ℤ pos d) *ℤ pos k ≡ pos (u * k) -ℤ pos (d * k)
sub-times u d k = elim (cases_lt u d) as (λ _. (pos u -ℤ pos d) *ℤ pos k ≡ pos (u * k) -ℤ pos (d * k)) [
  | inl less ↦
      let m = d - u - 1 in
      let e : pos u -ℤ pos d ≡ negsuc m = omega (arith, ints, less) in
      let f : (u + suc m) * k ≡ d * k = ap (λ x. x * k) (omega (arith, less)) in
      ap (λ z. z *ℤ pos k) e ∙ negsuc-*ℤ-pos m k ∙ omega (arith, ints, f)
  | inr more ↦
      let m = u - d in
      let e : pos u -ℤ pos d ≡ pos m = omega (arith, ints, more) in
      let f : (d + m) * k ≡ u * k = ap (λ x. x * k) (omega (arith, more)) in
      ap (λ z. z *ℤ pos k) e ∙ omega (arith, ints, f)
]

-- a floor isn't below -480 where the difference isn't
pub floor-low : (up down den : ℕ) → 0 < den → down ≤ 480 * den → negsuc 479 ≤ℤ floor_of_signed (pos up -ℤ pos down) den
floor-low up down den some low = elim (cases_lt up down) as (λ _. negsuc 479 ≤ℤ floor_of_signed (pos up -ℤ pos down) den) [
  | inl less ↦
      let m = down - up - 1 in
      let e : pos up -ℤ pos down ≡ negsuc m = omega (arith, ints, less) in
      let below : (m / den) * den ≤ m = div-mul-le_self m den in
      let few : m / den ≤ 479 = elim (cases_lt 479 (m / den)) as (λ _. m / den ≤ 479) [
        | inl many ↦
            let more : 480 * den ≤ (m / den) * den = mul-le-mul_right den many in
            omega (arith, more, below, low, less, some)
        | inr rest ↦ rest
      ] in
      rw e (omega (arith, ints, few))
  | inr more ↦
      let m = up - down in
      let e : pos up -ℤ pos down ≡ pos m = omega (arith, ints, more) in
      rw e (omega (arith, ints))
]

-- a floor is below 2^42 where the difference is
pub floor-high : (up down den : ℕ) → 0 < den → up < 2 ^ 42 * den → floor_of_signed (pos up -ℤ pos down) den <ℤ pos (2 ^ 42)
floor-high up down den some high = elim (cases_lt up down) as (λ _. floor_of_signed (pos up -ℤ pos down) den <ℤ pos (2 ^ 42)) [
  | inl less ↦
      let m = down - up - 1 in
      let e : pos up -ℤ pos down ≡ negsuc m = omega (arith, ints, less) in
      rw e (omega (arith, ints))
  | inr more ↦
      let m = up - down in
      let e : pos up -ℤ pos down ≡ pos m = omega (arith, ints, more) in
      let below : (m / den) * den ≤ m = div-mul-le_self m den in
      let few : m / den < 2 ^ 42 = elim (cases_lt (m / den) (2 ^ 42)) as (λ _. m / den < 2 ^ 42) [
        | inl rest ↦ rest
        | inr many ↦
            let some_more : (2 ^ 42) * den ≤ (m / den) * den = mul-le-mul_right den many in
            omega (arith, some_more, below, high, more)
      ] in
      rw e (omega (arith, ints, few))
]

-- (a0 - off / per) * rate / group + 1/2, over the denominator of all
pub anchor-floor : (a0 off per group rate : ℕ)
    → ((((pos a0 *ℤ pos per) -ℤ ((pos 1 *ℤ pos off) *ℤ pos 1)) *ℤ pos rate) *ℤ pos 2) +ℤ ((pos 1 *ℤ pos 1) *ℤ pos ((1 * per) * group))
    ≡ pos (a0 * per * rate * 2 + per * group) -ℤ pos (off * rate * 2)
anchor-floor a0 off per group rate =
    let one : (pos 1 *ℤ pos off) *ℤ pos 1 ≡ pos off = ap pos (omega arith) in
    let first : ((pos (a0 * per) -ℤ pos off) *ℤ pos rate) ≡ pos (a0 * per * rate) -ℤ pos (off * rate) = sub-times (a0 * per) off rate in
    let second : (pos (a0 * per * rate) -ℤ pos (off * rate)) *ℤ pos 2 ≡ pos (a0 * per * rate * 2) -ℤ pos (off * rate * 2) =
    sub-times (a0 * per * rate) (off * rate) 2 in
    rw (one, first, second) (omega (arith, ints))
