-- The reads of a video as whole numbers.
use Rattle.std.proofs.Common.{◌≡◌, ◌≤◌, ◌<◌, ◌+◌, ◌*◌, ◌/◌, ◌%◌, ◌↔◌, ℕ, ℤ, Bool, arith, pos, ◌-ℤ◌}
use Rattle.std.proofs.lemmas.Int.{ints}
use Rattle.std.proofs.Math.Nat.{mul-le-mul}
use Rattle.fraction128.specs.Fractions.{AtMost, whole}
use Rattle.timing_base.specs.Media.{Media}
use Rattle.sender_params.specs.Reads.{read_of}
use Rattle.sender_params.specs.Sizes.{AreSizes, HavePer}
use Rattle.sender_params.specs.Times.{group_time, offset_time, read_step}
use Rattle.sender_params.proofs.Compare.{instant-scaled, le-scaled, read-difference, read-scaled}
use Rattle.sender_params.proofs.Parts.{group-exact, step-exact}

-- the numerator of a read is the one less the other, where group `anchor` is a - b
abbrev pub late_of : Media → ℕ → Bool → ℕ → ℕ → ℕ
late_of m n gapped a x =
    (((a + x / n) * (group_time m).0) * (offset_time m).1 + (offset_time m).0 * (group_time m).1) * (read_step m n gapped).1
    + (x % n) * (read_step m n gapped).0 * ((group_time m).1 * (offset_time m).1)

abbrev pub early_of : Media → ℕ → Bool → ℕ → ℕ
early_of m n gapped b = ((b * (group_time m).0) * (offset_time m).1) * (read_step m n gapped).1

-- the denominator of a read
abbrev pub per_of : Media → ℕ → Bool → ℕ
per_of m n gapped = ((group_time m).1 * (offset_time m).1) * (read_step m n gapped).1

pub read_of-num : (m : Media) (n : ℕ) (anchor : ℤ) (gapped : Bool) (a b x : ℕ)
    → anchor ≡ pos a -ℤ pos b
    → (read_of m n anchor gapped x).num ≡ pos (late_of m n gapped a x) -ℤ pos (early_of m n gapped b)
read_of-num m n anchor gapped a b x is =
    rw is (read-difference a b (x / n) (x % n) (group_time m).0 (group_time m).1 (offset_time m).0 (offset_time m).1 (read_step m n gapped).0
    (read_step m n gapped).1)

-- a read stands to a whole nanosecond as these numbers do
pub read_of-at_most : (m : Media) (n : ℕ) (anchor : ℤ) (gapped : Bool) (a b x t : ℕ)
    → anchor ≡ pos a -ℤ pos b
    → AtMost (read_of m n anchor gapped x) (whole t) ↔ (late_of m n gapped a x ≤ t * per_of m n gapped + early_of m n gapped b)
read_of-at_most m n anchor gapped a b x t is =
    let num = read_of-num m n anchor gapped a b x is in
    (λ h. omega (arith, ints, num, h), λ h. omega (arith, ints, num, h))

pub read_of-at_least : (m : Media) (n : ℕ) (anchor : ℤ) (gapped : Bool) (a b x t : ℕ)
    → anchor ≡ pos a -ℤ pos b
    → AtMost (whole t) (read_of m n anchor gapped x) ↔ (t * per_of m n gapped + early_of m n gapped b ≤ late_of m n gapped a x)
read_of-at_least m n anchor gapped a b x t is =
    let num = read_of-num m n anchor gapped a b x is in
    (λ h. omega (arith, ints, num, h), λ h. omega (arith, ints, num, h))

-- where read x is in parts of which a nanosecond has so many, counted from b groups before 0
abbrev pub parts_at : (a group offset step n x : ℕ) → ℕ
parts_at a group offset step n x = (a + x / n) * group + offset + (x % n) * step

-- where the whole nanosecond t is
abbrev pub parts_of : (b den group t : ℕ) → ℕ
parts_of b den group t = t * den + b * group

-- a read and a whole nanosecond over the denominator of the one, and in parts
pub record AreScaled (m : Media) (n : ℕ) (gapped : Bool) (a b den group step offset x t : ℕ) : Type 0 where
  pub per_some : 0 < per_of m n gapped
  pub den_some : 0 < den
  pub read : den * late_of m n gapped a x ≡ per_of m n gapped * parts_at a group offset step n x
  pub instant : den * (t * per_of m n gapped + early_of m n gapped b) ≡ per_of m n gapped * parts_of b den group t

pub sizes-scaled : (m : Media) (n : ℕ) (gapped : Bool) (a b den group step offset x t : ℕ)
    → HavePer m n gapped
    → AreSizes m n gapped den group step offset
    → 1 ≤ den
    → AreScaled m n gapped a b den group step offset x t
sizes-scaled m n gapped a b den group step offset x t have are some =
    let gn = (group_time m).0 in
    let gd = (group_time m).1 in
    let on = (offset_time m).0 in
    let od = (offset_time m).1 in
    let sn = (read_step m n gapped).0 in
    let sd = (read_step m n gapped).1 in
    let eg : group * gd ≡ gn * den = rw (are.group_is, are.den_is) (group-exact m n) in
    let es : step * sd ≡ sn * den = rw (are.step_is, are.den_is) (step-exact m n gapped) in
    let pair : 1 * 1 ≤ gd * od = mul-le-mul have.group have.offset in
    let both : 1 ≤ gd * od = omega (arith, pair) in
    let product : 1 * 1 ≤ per_of m n gapped = mul-le-mul both have.step in
    record {
      per_some = omega (arith, product);
      den_some = omega (arith, some);
      read = read-scaled a (x / n) (x % n) gn gd on od sn sd den group offset step eg are.offset_is es;
      instant = instant-scaled b t gn gd od sd den group eg;
    }

-- a read stands to a whole nanosecond as their parts do
reads-by-parts : (m : Media) (n : ℕ) (anchor : ℤ) (gapped : Bool) (a b den group step offset x t : ℕ)
    → HavePer m n gapped
    → AreSizes m n gapped den group step offset
    → 1 ≤ den
    → anchor ≡ pos a -ℤ pos b
    → (AtMost (read_of m n anchor gapped x) (whole t) ↔ (parts_at a group offset step n x ≤ parts_of b den group t))
    × (AtMost (whole t) (read_of m n anchor gapped x) ↔ (parts_of b den group t ≤ parts_at a group offset step n x))
reads-by-parts m n anchor gapped a b den group step offset x t have are some is =
    let s = sizes-scaled m n gapped a b den group step offset x t have are some in
    let per = per_of m n gapped in
    let late = late_of m n gapped a x in
    let early = t * per + early_of m n gapped b in
    let read = parts_at a group offset step n x in
    let instant = parts_of b den group t in
    let below = le-scaled den per late early read instant s.read s.instant s.den_some s.per_some in
    let above = le-scaled den per early late instant read s.instant s.read s.den_some s.per_some in
    let before = read_of-at_most m n anchor gapped a b x t is in
    let after = read_of-at_least m n anchor gapped a b x t is in (
      (λ h. below.0 (before.0 h), λ h. before.1 (below.1 h)),
      (λ h. above.0 (after.0 h), λ h. after.1 (above.1 h)),
    )

-- the same of parts that are counted from elsewhere, where `lift` is what lies between
pub reads-by-place : (m : Media) (n : ℕ) (anchor : ℤ) (gapped : Bool) (a b den group step offset x t lift place instant : ℕ)
    → HavePer m n gapped
    → AreSizes m n gapped den group step offset
    → 1 ≤ den
    → anchor ≡ pos a -ℤ pos b
    → place + b * group ≡ parts_at a group offset step n x + lift
    → instant + b * group ≡ parts_of b den group t + lift
    → (AtMost (read_of m n anchor gapped x) (whole t) ↔ (place ≤ instant))
    × (AtMost (whole t) (read_of m n anchor gapped x) ↔ (instant ≤ place))
reads-by-place m n anchor gapped a b den group step offset x t lift place instant have are some is here there =
    let both = reads-by-parts m n anchor gapped a b den group step offset x t have are some is in (
      (λ h. omega (arith, here, there, both.0.0 h), λ h. both.0.1 (omega (arith, here, there, h))),
      (λ h. omega (arith, here, there, both.1.0 h), λ h. both.1.1 (omega (arith, here, there, h))),
    )
