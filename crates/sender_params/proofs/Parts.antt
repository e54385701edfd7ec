-- The times of a sender in parts of a nanosecond: T_GROUP, TR_OFFSET and T_RS are whole numbers of them where a
-- nanosecond has as many as T_RS of the gapped schedule has in its denominator.
use Rattle.std.proofs.Common.{◌≡◌, ◌≤◌, ◌<◌, ◌+◌, ◌*◌, ◌/◌, ◌^◌, ℕ, Bool, true, false, cond, nat_le, Some, None, refl, ap, sym, ◌∙◌, arith}
use Rattle.std.proofs.lemmas.Nat.{div-mul-add}
use Rattle.std.proofs.Math.Nat.{mul-le-mul, mul-le-mul_left, mul-le-mul_right}
use Rattle.timing_base.specs.Media.{IsMedia, Media}
use Rattle.sender_params.specs.Times.{active_part, group_time, groups_of, offset_by, offset_part, offset_time, read_step}
use Rattle.sender_params.specs.Sizes.{HavePer, step_parts}

-- a quotient without remainder
pub quotient-exact : (y d x : ℕ) → 1 ≤ d → y * d ≡ x → x / d ≡ y
quotient-exact y d x some is =
    let e : y * d + 0 ≡ x = omega (arith, is) in
    ap (λ z. z / d) (sym e) ∙ div-mul-add y d 0 (omega (arith, some))

-- T_GROUP
pub group-exact : (m : Media) (n : ℕ)
    → (m.q * 1000000000 * (active_part m).1 * n) * (group_time m).1 ≡ (group_time m).0 * (read_step m n true).1
group-exact m n = omega arith

-- T_RS
pub step-exact : (m : Media) (n : ℕ) (gapped : Bool)
    → step_parts m gapped * (read_step m n gapped).1 ≡ (read_step m n gapped).0 * (read_step m n true).1
step-exact m n true = omega arith
step-exact m n false = omega arith

-- the parts of T_FRAME of the offset and of R_ACTIVE, by interlacing and by height
abbrev offset_by_height : (interlaced tall middle : Bool) → ℕ × ℕ
offset_by_height interlaced tall middle =
    cond interlaced (cond tall (22, 1125) (cond middle (26, 625) (20, 525))) (cond tall (43, 1125) (28, 750))

abbrev active_by_height : (interlaced tall middle : Bool) → ℕ × ℕ
active_by_height interlaced tall middle =
    cond interlaced (cond tall (1080, 1125) (cond middle (576, 625) (487, 525))) (1080, 1125)

offset-share : (interlaced tall middle : Bool)
    → (y : ℕ) × (y * (offset_by_height interlaced tall middle).1
    ≡ (offset_by_height interlaced tall middle).0 * (active_by_height interlaced tall middle).1)
offset-share true true middle = (22, refl)
offset-share true false true = (26, refl)
offset-share true false false = (20, refl)
offset-share false true middle = (43, refl)
offset-share false false middle = (42, refl)

-- TR_OFFSET
pub offset-exact : (m : Media) (n : ℕ)
    → (y : ℕ) × (y * (offset_time m).1 ≡ (offset_time m).0 * (read_step m n true).1)
offset-exact m n =
    elim (m.troff) as (λ t. (y : ℕ) × (y * (offset_by m t).1 ≡ (offset_by m t).0 * (read_step m n true).1)) [
      | Some troff ↦ (1000 * troff * (read_step m n true).1, omega arith)
      | None ↦
          let share = offset-share m.interlaced (nat_le 1080 m.height) (nat_le 576 m.height) in
          let y = share.0 in
          let is : y * (offset_part m).1 ≡ (offset_part m).0 * (active_part m).1 = share.1 in
          let all : y * (offset_part m).1 * (m.q * 1000000000 * (m.p * (groups_of m * n)))
          ≡ (offset_part m).0 * (active_part m).1 * (m.q * 1000000000 * (m.p * (groups_of m * n))) =
          ap (λ z. z * (m.q * 1000000000 * (m.p * (groups_of m * n)))) is in
          (y * (m.q * 1000000000) * (groups_of m * n), omega (arith, all))
    ]

active-share : (interlaced tall middle : Bool)
    → (487 ≤ (active_by_height interlaced tall middle).0)
    × (((active_by_height interlaced tall middle).0 ≤ (active_by_height interlaced tall middle).1)
    × ((active_by_height interlaced tall middle).1 ≤ 1125))
active-share true true middle = (omega arith, (omega arith, omega arith))
active-share true false true = (omega arith, (omega arith, omega arith))
active-share true false false = (omega arith, (omega arith, omega arith))
active-share false tall middle = (omega arith, (omega arith, omega arith))

-- the bounds of R_ACTIVE
pub active-low : (m : Media) → 487 ≤ (active_part m).0
active-low m = (active-share m.interlaced (nat_le 1080 m.height) (nat_le 576 m.height)).0

pub active-within : (m : Media) → (active_part m).0 ≤ (active_part m).1
active-within m = (active-share m.interlaced (nat_le 1080 m.height) (nat_le 576 m.height)).1.0

pub active-most : (m : Media) → (active_part m).1 ≤ 1125
active-most m = (active-share m.interlaced (nat_le 1080 m.height) (nat_le 576 m.height)).1.1

-- a frame has one group or two
pub groups-some : (m : Media) → 1 ≤ groups_of m
groups-some m = elim (m.interlaced) as (λ b. 1 ≤ cond b 2 1) [ true ↦ omega arith | false ↦ omega arith ]

pub groups-most : (m : Media) → groups_of m ≤ 2
groups-most m = elim (m.interlaced) as (λ b. cond b 2 1 ≤ 2) [ true ↦ omega arith | false ↦ omega arith ]

offset-low-share : (interlaced tall middle : Bool) → 1 ≤ (offset_by_height interlaced tall middle).1
offset-low-share true true middle = omega arith
offset-low-share true false true = omega arith
offset-low-share true false false = omega arith
offset-low-share false true middle = omega arith
offset-low-share false false middle = omega arith

-- the offset is a part of T_FRAME
pub offset-low : (m : Media) → 1 ≤ (offset_part m).1
offset-low m = offset-low-share m.interlaced (nat_le 1080 m.height) (nat_le 576 m.height)

-- T_RS is at most that of the linear schedule, and at least 487 parts for each nanosecond of a second's q
pub step-low : (m : Media) (gapped : Bool) → m.q * 1000000000 * 487 ≤ step_parts m gapped
step-low m true = mul-le-mul_left (m.q * 1000000000) (active-low m)
step-low m false = mul-le-mul_left (m.q * 1000000000) (omega (arith, active-low m, active-within m))

pub step-high : (m : Media) (gapped : Bool) → step_parts m gapped ≤ m.q * 1000000000 * (active_part m).1
step-high m true = mul-le-mul_left (m.q * 1000000000) (active-within m)
step-high m false = omega arith

-- the bounds of the parts
pub rate-small : (m : Media) → IsMedia m → m.q * 1000000000 * (active_part m).1 < 2 ^ 51
rate-small m is =
    let a : m.q * (active_part m).1 ≤ m.q * 1125 = mul-le-mul_left m.q (active-most m) in
    omega (arith, a, is.q_most)

pub den-slow : (m : Media) (n : ℕ) → IsMedia m → n ≤ 262144 → (read_step m n true).1 ≤ m.q * 1000000000 * 487
den-slow m n is few =
    let s = (active_part m).1 in
    let h = groups_of m in
    let a : h * n ≤ 2 * n = mul-le-mul_right n (groups-most m) in
    let b : s * (h * n) ≤ 1125 * (h * n) = mul-le-mul_right (h * n) (active-most m) in
    let c : m.p * (s * (h * n)) ≤ m.p * 589824000 = mul-le-mul_left m.p (omega (arith, a, b, few)) in
    omega (arith, c, is.p_most)

pub group-fits : (m : Media) (n : ℕ) (gapped : Bool) → n * step_parts m gapped ≤ m.q * 1000000000 * (active_part m).1 * n
group-fits m n gapped =
    let a : n * step_parts m gapped ≤ n * (m.q * 1000000000 * (active_part m).1) = mul-le-mul_left n (step-high m gapped) in
    omega (arith, a)

pub group-slow : (m : Media) (n : ℕ) (gapped : Bool) → IsMedia m → n ≤ 262144 → n * (read_step m n true).1 ≤ m.q * 1000000000 * (active_part m).1 * n
group-slow m n gapped is few =
    let d : (read_step m n true).1 ≤ step_parts m gapped = omega (arith, den-slow m n is few, step-low m gapped) in
    let a : n * (read_step m n true).1 ≤ n * step_parts m gapped = mul-le-mul_left n d in
    omega (arith, a, group-fits m n gapped)

pub group-small : (m : Media) (n : ℕ) → IsMedia m → m.q * 1000000000 * (active_part m).1 * n ≤ n * 2 ^ 51
group-small m n is =
    let a : n * (m.q * 1000000000 * (active_part m).1) ≤ n * 2 ^ 51 = mul-le-mul_left n (omega (arith, rate-small m is)) in
    omega (arith, a)

pub group-most : (m : Media) (n : ℕ) → IsMedia m → m.q * 1000000000 * (active_part m).1 * n ≤ 1001000000000 * (read_step m n true).1
group-most m n is =
    let s = (active_part m).1 in
    let h = groups_of m in
    let a : 1 * (s * n) ≤ (m.p * h) * (s * n) = mul-le-mul_right (s * n) (omega (arith, mul-le-mul_left m.p (groups-some m), is.p_some)) in
    let b : m.q * (s * n) ≤ 1001 * (s * n) = mul-le-mul_right (s * n) is.q_most in
    omega (arith, a, b)

-- T_GROUP by division
pub group-is : (m : Media) (n num den per group : ℕ)
    → num ≡ (group_time m).0
    → per ≡ (group_time m).1
    → den ≡ (read_step m n true).1
    → 1 ≤ per
    → group ≡ num * den / per
    → group ≡ m.q * 1000000000 * (active_part m).1 * n
group-is m n num den per group en ep ed some is =
    is ∙ quotient-exact (m.q * 1000000000 * (active_part m).1 * n) per (num * den) some (rw (en, ep, ed) (group-exact m n))

-- T_RS by division
pub step-is : (m : Media) (n : ℕ) (gapped : Bool) (num den per step : ℕ)
    → num ≡ (read_step m n gapped).0
    → per ≡ (read_step m n gapped).1
    → den ≡ (read_step m n true).1
    → 1 ≤ per
    → step ≡ num * den / per
    → step ≡ step_parts m gapped
step-is m n gapped num den per step en ep ed some is =
    is ∙ quotient-exact (step_parts m gapped) per (num * den) some (rw (en, ep, ed) (step-exact m n gapped))

-- TR_OFFSET by division
pub offset-is : (m : Media) (n num den per offset : ℕ)
    → num ≡ (offset_time m).0
    → per ≡ (offset_time m).1
    → den ≡ (read_step m n true).1
    → 1 ≤ per
    → offset ≡ num * den / per
    → offset * (offset_time m).1 ≡ (offset_time m).0 * den
offset-is m n num den per offset en ep ed some is =
    let y = (offset-exact m n).0 in
    let exact : y * per ≡ num * den = rw (en, ep, ed) ((offset-exact m n).1) in
    let e : offset ≡ y = is ∙ quotient-exact y per (num * den) some exact in
    rw (e, ← ep, ← en) exact

-- TR_OFFSET isn't more than its numerator in whole nanoseconds
pub offset-small : (m : Media) (offset den : ℕ)
    → 1 ≤ (offset_time m).1
    → offset * (offset_time m).1 ≡ (offset_time m).0 * den
    → offset ≤ (offset_time m).0 * den
offset-small m offset den some is =
    let a : offset * 1 ≤ offset * (offset_time m).1 = mul-le-mul_left offset some in
    omega (arith, a, is)

-- the denominators of the times of a video
pub have_per : (m : Media) (n : ℕ) (gapped : Bool) → IsMedia m → 1 ≤ n → HavePer m n gapped
have_per m n gapped is some =
    let h : 1 ≤ groups_of m = groups-some m in
    let hp : 1 * 1 ≤ groups_of m * m.p = mul-le-mul h is.p_some in
    let hn : 1 * 1 ≤ groups_of m * n = mul-le-mul h some in
    let hn_some : 1 ≤ groups_of m * n = omega (arith, hn) in
    let s : 1 ≤ (active_part m).1 = omega (arith, active-low m, active-within m) in
    let ps : 1 * 1 ≤ m.p * (active_part m).1 = mul-le-mul is.p_some s in
    let ps_some : 1 ≤ m.p * (active_part m).1 = omega (arith, ps) in
    let all : 1 * 1 ≤ (m.p * (active_part m).1) * (groups_of m * n) = mul-le-mul ps_some hn_some in
    let line : 1 * 1 ≤ m.p * (groups_of m * n) = mul-le-mul is.p_some hn_some in
    let part : 1 * 1 ≤ (offset_part m).1 * m.p = mul-le-mul (offset-low m) is.p_some in
    record {
      group = omega (arith, hp);
      offset = elim m.troff as (λ t. 1 ≤ (offset_by m t).1) [ Some troff ↦ omega arith | None ↦ omega (arith, part) ];
      step = elim gapped as (λ g. 1 ≤ (read_step m n g).1) [ true ↦ omega (arith, all) | false ↦ omega (arith, line) ];
    }
