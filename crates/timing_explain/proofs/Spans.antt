-- The time from the first packet of a frame or field to its last is the difference of their times since its start.
use Rattle.std.specs.Prelude.{◌*ℤ◌, cond}
use Rattle.std.proofs.Common.{◌≡◌, ◌<◌, ◌≤◌, ◌+◌, ◌-◌, ◌*◌, ◌/◌, ◌%◌, ℕ, ℤ, pos, negsuc, ◌+ℤ◌, ◌-ℤ◌, Bool, true, false, inl, inr, refl, ap, ◌∙◌, arith}
use Rattle.std.proofs.Math.Nat.{add-mul}
use Rattle.std.proofs.lemmas.Bool.{cases_lt}
use Rattle.std.proofs.lemmas.Int.{ints}
use Rattle.std.proofs.lemmas.Nat.{div-add-mod', div-mul-add, mod_below}
use Rattle.fraction128.specs.Fractions.{floor_of_signed}
use Rattle.timing_base.specs.Media.{IsMedia, Media}
use Rattle.sender_params.specs.Times.{group_time}
use Rattle.flow_measure.specs.Frames.{frame_start}
use Rattle.flow_measure.specs.Groups.{firsts_of, lasts_of, since_at}
use Rattle.flow_findings.specs.Details.{span_at}

-- a floor, and so many whole numbers more
floor-more : (x : ℤ) (c d : ℕ) → 0 < d → floor_of_signed (x +ℤ pos (c * d)) d ≡ floor_of_signed x d +ℤ pos c
floor-more (pos n) c d some =
    let q = n / d in
    let r = n % d in
    let split : q * d + r ≡ n = div-add-mod' n d in
    let sum : (q + c) * d ≡ q * d + c * d = add-mul q c d in
    let here : pos n +ℤ pos (c * d) ≡ pos ((q + c) * d + r) = omega (arith, ints, split, sum) in
    let there : ((q + c) * d + r) / d ≡ q + c = div-mul-add (q + c) d r (mod_below n d some) in
    ap (λ z. floor_of_signed z d) here ∙ ap pos there ∙ (omega (arith, ints))
floor-more (negsuc n) c d some =
    let q = n / d in
    let r = n % d in
    let split : q * d + r ≡ n = div-add-mod' n d in
    let rest : r < d = mod_below n d some in
    elim (cases_lt q c) as (λ _. floor_of_signed (negsuc n +ℤ pos (c * d)) d ≡ negsuc q +ℤ pos c) [
      | inl less ↦
          let e = c - (q + 1) in
          let parts : e + (q + 1) ≡ c = omega (arith, less) in
          let sum : (e + (q + 1)) * d ≡ e * d + (q + 1) * d = add-mul e (q + 1) d in
          let one : (q + 1) * d ≡ q * d + 1 * d = add-mul q 1 d in
          let whole : (e + (q + 1)) * d ≡ c * d = ap (λ k. k * d) parts in
          let here : negsuc n +ℤ pos (c * d) ≡ pos (e * d + (d - r - 1)) = omega (arith, ints, split, rest, sum, one, whole) in
          let there : (e * d + (d - r - 1)) / d ≡ e = div-mul-add e d (d - r - 1) (omega (arith, some)) in
          ap (λ z. floor_of_signed z d) here ∙ ap pos there ∙ (omega (arith, ints, parts))
      | inr more ↦
          let k = q - c in
          let parts : k + c ≡ q = omega (arith, more) in
          let sum : (k + c) * d ≡ k * d + c * d = add-mul k c d in
          let whole : (k + c) * d ≡ q * d = ap (λ j. j * d) parts in
          let here : negsuc n +ℤ pos (c * d) ≡ negsuc (k * d + r) = omega (arith, ints, split, sum, whole) in
          let there : (k * d + r) / d ≡ k = div-mul-add k d r rest in
          ap (λ z. floor_of_signed z d) here ∙ ap negsuc there ∙ (omega (arith, ints, parts))
    ]

-- the same of differences from whole numbers
floors-differ : (first last by den : ℕ) (start : ℤ) → last ≡ first + by → 0 < den
    → floor_of_signed ((pos last *ℤ pos den) -ℤ start) (1 * den) ≡ floor_of_signed ((pos first *ℤ pos den) -ℤ start) (1 * den) +ℤ pos by
floors-differ first last by den start e some =
    let one : 1 * den ≡ den = omega arith in
    let sum : (first + by) * den ≡ first * den + by * den = add-mul first by den in
    let whole : last * den ≡ (first + by) * den = ap (λ k. k * den) e in
    let step : by * (1 * den) ≡ by * den = ap (λ k. by * k) one in
    let low : pos first *ℤ pos den ≡ pos (first * den) = refl in
    let high : pos last *ℤ pos den ≡ pos (last * den) = refl in
    let here : (pos last *ℤ pos den) -ℤ start ≡ ((pos first *ℤ pos den) -ℤ start) +ℤ pos (by * (1 * den)) = omega (arith, ints, sum, whole, step, low, high) in
    ap (λ z. floor_of_signed z (1 * den)) here ∙ floor-more ((pos first *ℤ pos den) -ℤ start) by (1 * den) (omega (arith, one, some))

-- T_GROUP has a denominator
some-groups : (interlaced : Bool) (p : ℕ) → 1 ≤ p → 0 < cond interlaced 2 1 * p
some-groups true p some = omega (arith, some)
some-groups false p some = omega (arith, some)

pub span-differs : (m : Media) (anchor : ℤ) (n k : ℕ) (stamp : ℕ → ℕ) → IsMedia m → firsts_of n stamp k ≤ lasts_of n stamp k
    → since_at m anchor (lasts_of n stamp) k ≡ since_at m anchor (firsts_of n stamp) k +ℤ pos (span_at n stamp k)
span-differs m anchor n k stamp is order =
    floors-differ (firsts_of n stamp k) (lasts_of n stamp k) (span_at n stamp k) (group_time m).1 ((frame_start m anchor k).num *ℤ pos 1)
    (omega (arith, order)) (some-groups m.interlaced m.p is.p_some)
