use Rattle.std.proofs.Common.{◌≤◌, ◌*◌, ◌^◌, arith}
use Rattle.std.proofs.Math.Nat.{mul-le-mul_right}
use Rattle.sender_params.specs.Times.{offset_time}
use Rattle.sender_params.proofs.Parts.{den-slow, group-fits, group-is, group-most, group-slow, group-small, have_per, offset-is, offset-small, rate-small}
use Rattle.sender_params.proofs.Parts.{step-high, step-is, step-low}
use Rattle.sender_params.proofs.sizes.sizes_of.Goals as goal

pub returns : goal.returns
returns c =
    let m = c.args.params.now.media in
    let n = c.args.params.now.n in
    let gapped = c.args.gapped in
    let is = c.args.params.now.media_is in
    let d = c.step-den.ensures in
    let g = c.group.ensures in
    let s = c.step.ensures in
    let o = c.offset.ensures in
    let D = c.step-den.result.1 in
    let group = group-is m n _ _ _ _ g.num g.den d.den g.some c.parts.ensures in
    let step = step-is m n gapped _ _ _ _ s.num s.den d.den s.some c.parts-2.ensures in
    let offset = offset-is m n _ _ _ _ o.num o.den d.den o.some c.parts-3.ensures in
    let most = offset-small m c.parts-3.result D (omega (arith, o.some, o.den)) offset in
    let few : (offset_time m).0 * D ≤ 2 ^ 46 * D = mul-le-mul_right D (omega (arith, o.num, o.num_small)) in
    record {
      sizes = record { den_is = d.den; group_is = group; step_is = step; offset_is = offset };
      den_some = omega (arith, d.some);
      den_small = omega (arith, d.den_small);
      step_slow = omega (arith, d.den, step, den-slow m n is (omega arith), step-low m gapped);
      step_small = omega (arith, step, step-high m gapped, rate-small m is);
      group_fits = rw (step, group) (group-fits m n gapped);
      group_slow = rw (d.den, group) (group-slow m n gapped is (omega arith));
      group_small = rw group (group-small m n is);
      group_most = rw (d.den, group) (group-most m n is);
      offset_small = omega (arith, most, few, d.den_small);
      times = have_per m n gapped is (omega arith);
    }
