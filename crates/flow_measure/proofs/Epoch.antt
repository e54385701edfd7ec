-- Groups against the frames of their epoch, in whole numbers: `lift` is the number of the first packet's group, counted from
-- 480 groups before 0 of TAI.
use Rattle.std.proofs.Common.{◌≡◌, ◌≤◌, ◌<◌, ◌+◌, ◌*◌, ◌^◌, ℕ, ℤ, pos, ◌+ℤ◌, ◌-ℤ◌, ◌*ℤ◌, ap, ◌∙◌, sym, refl, arith}
use Rattle.std.proofs.Math.Nat.{mul-le-mul_left, mul-le-mul_right}
use Rattle.std.proofs.lemmas.Int.{ints}
use Rattle.fraction128.specs.Fractions.{Fraction, floor, floor_of_signed, minus, whole}
use Rattle.sender_params.proofs.Floors.{sub-times}
use Rattle.flow_measure.specs.Frames.{clock_at}

-- the instant with which a group begins
pub start-num : (lift k num : ℕ) (anchor : ℤ) → pos lift ≡ anchor +ℤ pos 480
    → (anchor +ℤ pos k) *ℤ pos num ≡ pos ((lift + k) * num) -ℤ pos (480 * num)
start-num lift k num anchor e =
    let shifted : anchor +ℤ pos k ≡ pos (lift + k) -ℤ pos 480 = omega (arith, ints, e) in
    ap (λ z. z *ℤ pos num) shifted ∙ sub-times (lift + k) 480 num

since-num : (at num before den : ℕ)
    → (pos at *ℤ pos den) -ℤ ((pos num -ℤ pos before) *ℤ pos 1) ≡ pos (at * den + before) -ℤ pos num
since-num at num before den =
    let product : pos at *ℤ pos den ≡ pos (at * den) = refl in
    let same = sub-times num before 1 in
    omega (arith, ints, product, same)

-- a whole nanosecond after an instant, rounded down
pub since-is : (start : Fraction) (at num before den : ℕ)
    → start.num ≡ pos num -ℤ pos before
    → start.den ≡ den
    → floor_of_signed (pos (at * den + before) -ℤ pos num) den ≡ floor (minus (whole at) start)
since-is start at num before den en ed =
    let one : 1 * den ≡ den = omega arith in
    ap (λ z. floor_of_signed z den) (sym (since-num at num before den))
    ∙ ap (floor_of_signed ((pos at *ℤ pos den) -ℤ ((pos num -ℤ pos before) *ℤ pos 1))) (sym one)
    ∙ ap (λ z. floor_of_signed ((pos at *ℤ pos den) -ℤ (z *ℤ pos 1)) (1 * den)) (sym en)
    ∙ ap (λ d. floor_of_signed ((pos at *ℤ pos d) -ℤ (start.num *ℤ pos 1)) (1 * d)) (sym ed)

-- the media clock at an instant
pub clock-is : (start : Fraction) (num before den : ℕ)
    → start.num ≡ pos num -ℤ pos before
    → start.den ≡ den
    → floor_of_signed (pos (num * 9) -ℤ pos (before * 9)) (den * 100000) ≡ clock_at start
clock-is start num before den en ed =
    ap (λ z. floor_of_signed z (den * 100000)) (sym (sub-times num before 9))
    ∙ ap (λ z. floor_of_signed (z *ℤ pos 9) (den * 100000)) (sym en)
    ∙ ap (λ d. floor_of_signed (start.num *ℤ pos 9) (d * 100000)) (sym ed)

-- the numbers of the code are small
pub start-small : (lift k num : ℕ) → lift ≤ 2 ^ 42 + 480 → k < 2 ^ 41 → num < 2 ^ 40 → (lift + k) * num < 2 ^ 83
start-small lift k num low few small =
    let a : (lift + k) * num ≤ (2 ^ 42 + 480 + 2 ^ 41) * num = mul-le-mul_right num (omega (arith, low, few)) in
    omega (arith, a, small)

pub reached-small : (at den : ℕ) → at < 2 ^ 62 → den < 2 ^ 19 → at * den < 2 ^ 81
reached-small at den few small =
    let a : at * den ≤ at * 2 ^ 19 = mul-le-mul_left at (omega (arith, small)) in
    omega (arith, a, few)
