-- The limits of a video and the status codes have 64 bits.
use Rattle.std.proofs.Common.{◌<◌, ◌≤◌, ◌^◌, ◌*◌, ◌/◌, ℕ, Bool, true, false, cond, max, Option, Some, None, refl, arith, lit<, lit≤}
use Rattle.std.specs.Prelude.{nat_le}
use Rattle.std.specs.Option.{ForSome, unwrap_or}
use Rattle.std.proofs.Math.Nat.{div-le_self, mul-le-mul, max-le, le_trans}
use Rattle.timing_base.specs.Media.{Media, IsMedia}
use Rattle.timing_base.specs.declared.media.Kind.{Kind}
use Rattle.timing_base.specs.declared.media.Kind.TheVariants.{N, NL, W}
use Rattle.sender_params.specs.Limits.{c_max_by_rate, c_max_of, is_declared, vrx_full_of}
use Rattle.sender_params.specs.Times.{active_part, groups_of, per_frame_of}
use Rattle.timing_report.specs.declared.status.Status.{Status}
use Rattle.timing_report.specs.declared.status.Status.TheVariants as status
use Rattle.timing_report.specs.Status.{code_of}

two_at_most : (b : Bool) → cond b 2 1 ≤ 2
two_at_most true = lit≤ tt
two_at_most false = lit≤ tt

-- the packets of q seconds
rate_at_most : (m : Media) (n : ℕ) → IsMedia m → n ≤ 262144 → per_frame_of m n * m.p ≤ 126000000000
rate_at_most m n is few =
    let p : m.p ≤ 240240 = omega (arith, is.p_most, is.q_most) in
    let frame : groups_of m * n ≤ 2 * 262144 = mul-le-mul (two_at_most m.interlaced) few in
    let both : groups_of m * n * m.p ≤ 2 * 262144 * 240240 = mul-le-mul frame p in
    omega (arith, both)

abbrev part : Bool → Bool → Bool → ℕ × ℕ
part b c d = cond b (cond c (1080, 1125) (cond d (576, 625) (487, 525))) (1080, 1125)

part_at_most : (b c d : Bool) → (part b c d).1 ≤ 1125
part_at_most true true d = lit≤ tt
part_at_most true false true = lit≤ tt
part_at_most true false false = lit≤ tt
part_at_most false c d = lit≤ tt

floor_small : (least x d most : ℕ) → least ≤ most → x ≤ most → most < 2 ^ 60 → max least (x / d) < 2 ^ 60
floor_small least x d most l h small = omega (arith, max-le l (le_trans (div-le_self x d) h))

by_rate_small : (m : Media) (n : ℕ) (kind : Kind) → IsMedia m → n ≤ 262144 → c_max_by_rate m n kind < 2 ^ 60
by_rate_small m n N is few =
    let scaled : per_frame_of m n * m.p * (active_part m).1 ≤ 126000000000 * 1125 =
    mul-le-mul (rate_at_most m n is few) (part_at_most m.interlaced (nat_le 1080 m.height) (nat_le 576 m.height)) in
    floor_small 4 _ (43200 * (active_part m).0 * m.q) (126000000000 * 1125) (lit≤ tt) scaled (lit< tt)
by_rate_small m n NL is few = floor_small 4 _ (43200 * m.q) 126000000000 (lit≤ tt) (rate_at_most m n is few) (lit< tt)
by_rate_small m n W is few = floor_small 16 _ (21600 * m.q) 126000000000 (lit≤ tt) (rate_at_most m n is few) (lit< tt)

given_small : (cmax : Option ℕ) (limit : ℕ) → ForSome cmax (λ x. x ≤ 65535) → limit < 2 ^ 60 → unwrap_or cmax limit < 2 ^ 64
given_small None limit h small = omega (arith, small)
given_small (Some x) limit h small = omega (arith, h x refl)

either_small : (b : Bool) (x y : ℕ) → x < 2 ^ 64 → y < 2 ^ 64 → cond b x y < 2 ^ 64
either_small true x y h k = h
either_small false x y h k = k

-- C_MAX
pub c_max_small : (m : Media) (n : ℕ) (kind : Kind) → IsMedia m → n ≤ 262144 → c_max_of m n kind < 2 ^ 64
c_max_small m n kind is few =
    let limit = by_rate_small m n kind is few in
    either_small (is_declared m.declared kind) _ _ (given_small m.cmax _ is.cmax_most limit) (omega (arith, limit))

full_small : (least x d : ℕ) → least ≤ 720 → x ≤ 126000000000 → max least (x / d) < 2 ^ 64
full_small least x d l h = omega (arith, floor_small least x d 126000000000 (omega arith) h (lit< tt))

-- VRX_FULL
pub vrx_full_small : (m : Media) (n : ℕ) (kind : Kind) → IsMedia m → n ≤ 262144 → vrx_full_of m n kind < 2 ^ 64
vrx_full_small m n N is few = full_small 8 _ (27000 * m.q) (lit≤ tt) (rate_at_most m n is few)
vrx_full_small m n NL is few = full_small 8 _ (27000 * m.q) (lit≤ tt) (rate_at_most m n is few)
vrx_full_small m n W is few = full_small 720 _ (300 * m.q) (lit≤ tt) (rate_at_most m n is few)

-- the code of a status
pub code_small : (s : Status) → code_of s < 2 ^ 64
code_small status.Pass = lit< tt
code_small status.Fail = lit< tt
code_small status.Usage = lit< tt
code_small (status.SdpRefused fault) = lit< tt
code_small status.NotAllJudged = lit< tt
code_small (status.ReadFault input) = lit< tt
code_small status.WriteFault = lit< tt
code_small status.OutOfMemory = lit< tt
code_small status.ReportRefused = lit< tt
