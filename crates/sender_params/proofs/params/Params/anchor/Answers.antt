use Rattle.std.proofs.Common.{◌≤◌, ◌*◌, ◌^◌, arith}
use Rattle.std.proofs.Math.Nat.{mul-le-mul_right}
use Rattle.std.proofs.lemmas.Int.{ints}
use Rattle.sender_params.proofs.Anchors.{anchor-high, anchor-is}
use Rattle.sender_params.proofs.params.Params.anchor.Goals as goal

pub overflow_add-up : goal.overflow_add-up
overflow_add-up c =
    let o = c.offset-offset in
    let g = c.group-group in
    let few : o.result.1 * g.result.0 ≤ (2 ^ 29) * g.result.0 = mul-le-mul_right g.result.0 (omega (arith, o.ensures.den_small)) in
    omega (
      arith,
      few,
      g.ensures.num_small,
      anchor-high c.from.result o.result.1 g.result.1 g.result.0 (omega arith) (omega arith) (omega arith)
          (omega (arith, g.ensures.slow)),
    )

pub floor_difference-requires-clause-high : goal.floor_difference-requires-clause-high
floor_difference-requires-clause-high c =
    let o = c.offset-offset in
    let g = c.group-group in
    omega (arith, anchor-high c.from.result o.result.1 g.result.1 g.result.0 (omega arith) (omega arith) (omega arith) (omega (arith, g.ensures.slow)))

pub returns-clause-value : goal.returns-clause-value
returns-clause-value c =
    let o = c.offset-offset in
    let g = c.group-group in
    let same = anchor-is c.args.self.now.media c.args.a0 c.from.result o.result.0 o.result.1 g.result.0 g.result.1 c.from.ensures o.ensures.num o.ensures.den
    g.ensures.num g.ensures.den in
    omega (arith, ints, c.floor_difference.ensures.value, same)
