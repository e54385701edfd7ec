-- Reads rise, and only so many are due at any instant.
use Rattle.std.proofs.Common.{◌≡◌, ◌≤◌, ◌<◌, ◌+◌, ◌-◌, ◌*◌, ◌%◌, ◌↔◌, ℕ, zero, suc, ℤ, Bool, true, false, ap, arith, inl, inr, pos, negsuc, ◌-ℤ◌, ◌*ℤ◌, ◌≤ℤ◌}
use Rattle.std.proofs.Common.{◌<ℤ◌}
use Rattle.std.proofs.lemmas.Bool.{cases_lt}
use Rattle.std.proofs.lemmas.Int.{ints}
use Rattle.std.proofs.lemmas.Nat.{mod_below}
use Rattle.std.proofs.Math.Nat.{mul-le-mul, mul-le-mul_left, mul-le-mul_right}
use Rattle.fraction128.specs.Fractions.{Below, Fraction}
use Rattle.timing_base.specs.Media.{IsMedia, Media}
use Rattle.sender_params.specs.Reads.{AreDue, read_of}
use Rattle.sender_params.specs.Times.{active_part, group_time, groups_of, offset_time, read_step}
use Rattle.sender_params.proofs.Floors.{sub-times}
use Rattle.sender_params.proofs.Lines.{early_of, late_of, per_of, read_of-num}
use Rattle.sender_params.proofs.Parts.{active-low, active-within, have_per}
use Rattle.sender_params.proofs.Turns.{next_group, same_group}

-- the reads of a group take no longer than the group
pub step-fits : (m : Media) (n : ℕ) (gapped : Bool) → n * (read_step m n gapped).0 * (group_time m).1 ≤ (group_time m).0 * (read_step m n gapped).1
step-fits m n true =
    let k = (m.q * 1000000000) * (m.p * (groups_of m * n)) in
    let a : k * (active_part m).0 ≤ k * (active_part m).1 = mul-le-mul_left k (active-within m) in
    omega (arith, a)
step-fits m n false = omega arith

pub step-some : (m : Media) (n : ℕ) (gapped : Bool) → IsMedia m → 1 ≤ (read_step m n gapped).0
step-some m n true is =
    let r : 1 ≤ (active_part m).0 = omega (arith, active-low m) in
    let a : m.q * 1000000000 * 1 ≤ m.q * 1000000000 * (active_part m).0 = mul-le-mul_left (m.q * 1000000000) r in
    omega (arith, a, is.q_some)
step-some m n false is = omega (arith, is.q_some)

-- the numerator of the next read is greater
pub late_of-rises : (m : Media) (n : ℕ) (gapped : Bool) (a x : ℕ) → IsMedia m → 1 ≤ n → late_of m n gapped a x + 1 ≤ late_of m n gapped a (x + 1)
late_of-rises m n gapped a x is some =
    let gn = (group_time m).0 in
    let gd = (group_time m).1 in
    let od = (offset_time m).1 in
    let sn = (read_step m n gapped).0 in
    let sd = (read_step m n gapped).1 in
    let have = have_per m n gapped is some in
    let per : 1 * 1 ≤ gd * od = mul-le-mul have.group have.offset in
    let per_some : 1 ≤ gd * od = omega (arith, per) in
    let step : 1 * 1 ≤ sn * (gd * od) = mul-le-mul (step-some m n gapped is) per_some in
    elim (cases_lt (x % n + 1) n) as (λ _. late_of m n gapped a x + 1 ≤ late_of m n gapped a (x + 1)) [
      | inl inside ↦
          let e = same_group x n inside in
          rw (e.0, e.1) (omega (arith, step))
      | inr last ↦
          let outside : x % n + 1 ≡ n = omega (arith, last, mod_below x n (omega (arith, some))) in
          let e = next_group x n outside in
          let fits : od * (n * sn * gd) ≤ od * (gn * sd) = mul-le-mul_left od (step-fits m n gapped) in
          let split : (x % n + 1) * (sn * (gd * od)) ≡ n * (sn * (gd * od)) = ap (λ y. y * (sn * (gd * od))) outside in
          rw (e.0, e.1) (omega (arith, step, fits, split))
    ]

late_of-order : (m : Media) (n : ℕ) (gapped : Bool) (a x k : ℕ) → IsMedia m → 1 ≤ n → late_of m n gapped a x + k ≤ late_of m n gapped a (x + k)
late_of-order m n gapped a x zero is some =
    let e : late_of m n gapped a (x + zero) ≡ late_of m n gapped a x = ap (late_of m n gapped a) (omega arith) in
    omega (arith, e)
late_of-order m n gapped a x (suc k) is some =
    let e : late_of m n gapped a (x + suc k) ≡ late_of m n gapped a ((x + k) + 1) = ap (late_of m n gapped a) (omega arith) in
    omega (arith, e, late_of-order m n gapped a x k is some, late_of-rises m n gapped a (x + k) is some)

-- so numerators are in order
pub late_of-le : (m : Media) (n : ℕ) (gapped : Bool) (a x y : ℕ) → IsMedia m → 1 ≤ n → x ≤ y → late_of m n gapped a x + (y - x) ≤ late_of m n gapped a y
late_of-le m n gapped a x y is some order =
    let e : late_of m n gapped a (x + (y - x)) ≡ late_of m n gapped a y = ap (late_of m n gapped a) (omega (arith, order)) in
    omega (arith, e, late_of-order m n gapped a x (y - x) is some)

-- each whole number is a difference
pub difference : (z : ℤ) → (a : ℕ) × (b : ℕ) × (z ≡ pos a -ℤ pos b)
difference (pos k) = (k, 0, omega (arith, ints))
difference (negsuc k) = (0, k + 1, omega (arith, ints))

-- a read and an instant, in whole numbers: x is y - z, and t is c - d over its denominator
pub at_most-parts : (y z per c d : ℕ) (num t : ℤ) (den : ℕ)
    → num ≡ pos y -ℤ pos z
    → t ≡ pos c -ℤ pos d
    → ((num *ℤ pos den) ≤ℤ (t *ℤ pos per)) ↔ (y * den + d * per ≤ c * per + z * den)
at_most-parts y z per c d num t den en et =
    let left = sub-times y z den in
    let right = sub-times c d per in
    rw (en, et, left, right) (λ h. omega (arith, ints, h), λ h. omega (arith, ints, h))

pub below-parts : (y z per c d : ℕ) (num t : ℤ) (den : ℕ)
    → num ≡ pos y -ℤ pos z
    → t ≡ pos c -ℤ pos d
    → ((t *ℤ pos per) <ℤ (num *ℤ pos den)) ↔ (c * per + z * den < y * den + d * per)
below-parts y z per c d num t den en et =
    let left = sub-times y z den in
    let right = sub-times c d per in
    rw (en, et, left, right) (λ h. omega (arith, ints, h), λ h. omega (arith, ints, h))

-- of a rising line that gets above a level, the first place where it is
pub first_above : (f : ℕ → ℕ) (level k : ℕ)
    → ((x y : ℕ) → x ≤ y → f x ≤ f y)
    → level < f k
    → (count : ℕ) × (((x : ℕ) → x < count → f x ≤ level) × ((x : ℕ) → count ≤ x → level < f x))
first_above f level zero rise above = (0, (λ x few. absurd (omega (arith, few)), λ x from. omega (arith, above, rise 0 x from)))
first_above f level (suc k) rise above =
    elim (cases_lt level (f k)) as (λ _. (count : ℕ) × (((x : ℕ) → x < count → f x ≤ level) × ((x : ℕ) → count ≤ x → level < f x))) [
      | inl before ↦ first_above f level k rise before
      | inr low ↦ (suc k, (λ x few. omega (arith, low, rise x k (omega (arith, few))), λ x from. omega (arith, above, rise (suc k) x from)))
    ]

-- a later read is no earlier, at any scale
scaled-order : (m : Media) (n : ℕ) (gapped : Bool) (a x y den more : ℕ) → IsMedia m → 1 ≤ n → x ≤ y
    → late_of m n gapped a x * den + more ≤ late_of m n gapped a y * den + more
scaled-order m n gapped a x y den more is some order =
    let rise = late_of-le m n gapped a x y is some order in
    let product : late_of m n gapped a x * den ≤ late_of m n gapped a y * den = mul-le-mul_right den (omega (arith, rise)) in
    omega (arith, product)

-- some read is after each instant
scaled-above : (m : Media) (n : ℕ) (gapped : Bool) (a den more level : ℕ) → IsMedia m → 1 ≤ n → 1 ≤ den
    → level < late_of m n gapped a (level + 1) * den + more
scaled-above m n gapped a den more level is some den_some =
    let rise = late_of-le m n gapped a 0 (level + 1) is some (omega arith) in
    let product : late_of m n gapped a (level + 1) * 1 ≤ late_of m n gapped a (level + 1) * den = mul-le-mul_left (late_of m n gapped a (level + 1)) den_some in
    omega (arith, rise, product)

-- so many reads are due at each instant
pub due-some : (m : Media) (n : ℕ) (anchor : ℤ) (gapped : Bool) (t : Fraction)
    → IsMedia m
    → 1 ≤ n
    → 0 < t.den
    → (count : ℕ) × AreDue m n anchor gapped t count
due-some m n anchor gapped t is some den_some =
    let split = difference anchor in
    let a = split.0 in
    let b = split.1 in
    let here = difference t.num in
    let c = here.0 in
    let d = here.1 in
    let per = per_of m n gapped in
    let level = c * per + early_of m n gapped b * t.den in
    let line = λ (x : ℕ). late_of m n gapped a x * t.den + d * per in
    let found = first_above line level (level + 1)
    (λ x y order. scaled-order m n gapped a x y t.den (d * per) is some order)
    (scaled-above m n gapped a t.den (d * per) level is some den_some) in (
      found.0,
      record {
        due = λ x few. (at_most-parts (late_of m n gapped a x) (early_of m n gapped b) per c d _ t.num t.den (read_of-num m n anchor gapped a b x split.2)
            here.2).1 (found.1.0 x few);
        ahead = λ x from. (below-parts (late_of m n gapped a x) (early_of m n gapped b) per c d _ t.num t.den (read_of-num m n anchor gapped a b x split.2)
            here.2).1 (found.1.1 x from);
      },
    )

-- and no other number
pub due-once : (m : Media) (n : ℕ) (anchor : ℤ) (gapped : Bool) (t : Fraction) (a b : ℕ)
    → AreDue m n anchor gapped t a
    → AreDue m n anchor gapped t b
    → a ≡ b
due-once m n anchor gapped t a b first second =
    elim (cases_lt a b) as (λ _. a ≡ b) [
      | inl less ↦ absurd (omega (arith, ints, first.ahead a (omega arith), second.due a less))
      | inr rest ↦ elim (cases_lt b a) as (λ _. a ≡ b) [
        | inl more ↦ absurd (omega (arith, ints, second.ahead b (omega arith), first.due b more))
        | inr same ↦ omega (arith, rest, same)
      ]
    ]

-- each read is before the next
pub read-rises : (m : Media) (n : ℕ) (anchor : ℤ) (gapped : Bool) (x : ℕ)
    → IsMedia m
    → 1 ≤ n
    → Below (read_of m n anchor gapped x) (read_of m n anchor gapped (x + 1))
read-rises m n anchor gapped x is some =
    let split = difference anchor in
    let a = split.0 in
    let b = split.1 in
    let per = per_of m n gapped in
    let have = have_per m n gapped is some in
    let product : 1 * 1 ≤ (group_time m).1 * (offset_time m).1 = mul-le-mul have.group have.offset in
    let both : 1 ≤ (group_time m).1 * (offset_time m).1 = omega (arith, product) in
    let per_some : 1 * 1 ≤ per = mul-le-mul both have.step in
    let rise : (late_of m n gapped a x + 1) * per ≤ late_of m n gapped a (x + 1) * per = mul-le-mul_right per (late_of-rises m n gapped a x is some) in
    (below-parts (late_of m n gapped a (x + 1)) (early_of m n gapped b) per (late_of m n gapped a x) (early_of m n gapped b) _ _ per
    (read_of-num m n anchor gapped a b (x + 1) split.2) (read_of-num m n anchor gapped a b x split.2)).1 (omega (arith, rise, per_some))
