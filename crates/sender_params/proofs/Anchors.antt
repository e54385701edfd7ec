-- The group of a first packet, over one denominator.
use Rattle.std.proofs.Common.{◌≡◌, ◌≤◌, ◌<◌, ◌+◌, ◌*◌, ◌^◌, ℕ, arith, ap, sym, ◌∙◌, pos, ◌+ℤ◌, ◌-ℤ◌, ◌*ℤ◌}
use Rattle.std.proofs.Math.Nat.{mul-le-mul_right}
use Rattle.fraction128.specs.Fractions.{floor_of_signed}
use Rattle.timing_base.specs.Media.{IsMedia, Media}
use Rattle.sender_params.specs.Reads.{anchor_of}
use Rattle.sender_params.specs.Times.{group_time, groups_of, offset_time}
use Rattle.sender_params.proofs.Floors.{anchor-floor}
use Rattle.sender_params.proofs.Parts.{groups-most}

-- the code's quotient is the definition's
pub anchor-is : (m : Media) (a0 a off per group rate : ℕ)
    → a ≡ a0
    → off ≡ (offset_time m).0
    → per ≡ (offset_time m).1
    → group ≡ (group_time m).0
    → rate ≡ (group_time m).1
    → floor_of_signed (pos (a * per * rate * 2 + per * group) -ℤ pos (off * rate * 2)) (per * group * 2) ≡ anchor_of m a0
anchor-is m a0 a off per group rate ea eo ep eg er =
    let o = (offset_time m).0 in
    let p = (offset_time m).1 in
    let g = (group_time m).0 in
    let r = (group_time m).1 in
    let e : p * g * 2 ≡ ((1 * p) * g) * 2 = omega arith in
    rw (ea, eo, ep, eg, er)
    (ap (λ z. floor_of_signed z (p * g * 2)) (sym (anchor-floor a0 o p g r))
    ∙ ap (λ d. floor_of_signed (((((pos a0 *ℤ pos p) -ℤ ((pos 1 *ℤ pos o) *ℤ pos 1)) *ℤ pos r) *ℤ pos 2) +ℤ ((pos 1 *ℤ pos 1) *ℤ pos ((1 * p) * g))) d) e)

-- a second has at most 480 groups
pub group_time-most : (m : Media) → IsMedia m → (group_time m).1 ≤ 480 * m.q
group_time-most m is =
    let h : groups_of m * m.p ≤ 2 * m.p = mul-le-mul_right (m.p) (groups-most m) in
    omega (arith, h, is.p_most)

-- a first packet before 2^62 is of a group below 2^42
pub anchor-high : (a per rate group : ℕ)
    → a < 2 ^ 62
    → 1 ≤ per
    → 1 ≤ group
    → rate * 1000000000 ≤ 480 * group
    → a * per * rate * 2 + per * group < 2 ^ 42 * (per * group * 2)
anchor-high a per rate group small some some_group slow =
    let s : a * (per * rate) ≤ (2 ^ 62) * (per * rate) = mul-le-mul_right (per * rate) (omega (arith, small)) in
    let t : (rate * 1000000000) * per ≤ (480 * group) * per = mul-le-mul_right per slow in
    let u : 1 * group ≤ per * group = mul-le-mul_right group some in
    omega (arith, s, t, u, some_group)
