use Rattle.std.proofs.Common.{◌≡◌, ◌<◌, ◌≤◌, ◌*◌, ◌/◌, ℕ, Bool, ◌∙◌, arith}
use Rattle.std.proofs.Math.Nat.{div-le_self, mul_comm}
use Rattle.timing_base.specs.Media.{Media}
use Rattle.sender_params.specs.Sizes.{AreSizes, HavePer}
use Rattle.sender_params.specs.Times.{offset_time}
use Rattle.flow_measure.proofs.Floors.{quotient-scaled}
use Rattle.flow_measure.proofs.target.target_of.Goals as goal

-- the offset in nanoseconds, rounded down, by its parts
offset-is : (m : Media) (n : ℕ) (gapped : Bool) (den group step offset : ℕ)
    → HavePer m n gapped
    → AreSizes m n gapped den group step offset
    → 1 ≤ den
    → offset / den ≡ (offset_time m).0 / (offset_time m).1
offset-is m n gapped den group step offset have are some =
    let o = offset_time m in
    let per_some : 0 < o.1 = omega (arith, have.offset) in
    let whole : o.1 * offset ≡ den * o.0 = mul_comm o.1 offset ∙ are.offset_is ∙ mul_comm o.0 den in
    quotient-scaled offset o.0 den o.1 (omega (arith, some)) per_some whole

pub overflow_cast-result : goal.overflow_cast-result
overflow_cast-result c =
    let p = c.args.params.now in
    let z = c.sizes_of-sizes in
    let o = offset_time p.media in
    let same = offset-is p.media p.n _ z.result.den z.result.group z.result.step z.result.offset z.ensures.times z.ensures.sizes z.ensures.den_some in
    let low : o.0 / o.1 ≤ o.0 = div-le_self o.0 o.1 in
    omega (arith, same, low, p.offset_num, p.offset_num_small)

pub returns : goal.returns
returns c =
    let p = c.args.params.now in
    let z = c.sizes_of-sizes in
    offset-is p.media p.n _ z.result.den z.result.group z.result.step z.result.offset z.ensures.times z.ensures.sizes z.ensures.den_some
