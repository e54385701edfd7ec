use Rattle.std.proofs.Common.{◌≤◌, ◌<◌, ◌+◌, ◌*◌, ◌^◌, ℕ, arith, refl}
use Rattle.std.proofs.lemmas.Int.{ints}
use Rattle.std.proofs.Math.Nat.{mul-le-mul_right}
use Rattle.interval_checker.proofs.Schedules.{are_reads}
use Rattle.interval_checker.proofs.reads.Reads.of.Goals as goal

-- a start that fits
fits : (lifted n group offset : ℕ) → lifted ≤ 2 ^ 42 + 480 → n ≤ 262144 → group ≤ n * 2 ^ 51 → offset < 2 ^ 94 → lifted * group + offset < 2 ^ 113
fits lifted n group offset few most small low =
    let a : n * 2 ^ 51 ≤ 262144 * 2 ^ 51 = mul-le-mul_right (2 ^ 51) most in
    let b : lifted * group ≤ (2 ^ 42 + 480) * group = mul-le-mul_right group few in
    omega (arith, a, b, small, low)

pub overflow_mul-result : goal.overflow_mul-result
overflow_mul-result c =
    let s = c.sizes_of-sizes in
    omega (
      arith,
      fits c.lifted.result c.args.params.now.n s.result.group s.result.offset c.lifted.ensures.small (omega arith) s.ensures.group_small
          s.ensures.offset_small,
    )

pub overflow_add-result : goal.overflow_add-result
overflow_add-result c =
    let s = c.sizes_of-sizes in
    omega (
      arith,
      fits c.lifted.result c.args.params.now.n s.result.group s.result.offset c.lifted.ensures.small (omega arith) s.ensures.group_small
          s.ensures.offset_small,
    )

pub invariant_of-result-clause-start_small : goal.invariant_of-result-clause-start_small
invariant_of-result-clause-start_small c =
    let s = c.sizes_of-sizes in
    fits c.lifted.result c.args.params.now.n s.result.group s.result.offset c.lifted.ensures.small (omega arith) s.ensures.group_small s.ensures.offset_small

pub returns : goal.returns
returns c =
    let s = c.sizes_of-sizes in
    are_reads _ _ _ _ c.lifted.result s.result.offset _ s.ensures.times s.ensures.sizes
    (omega (arith, c.from.ensures, c.n.ensures.value))
    (omega (arith, ints, c.lifted.ensures.value, c.anchor-anchor.ensures.value))
    refl
