use Rattle.std.proofs.Common.{◌≡◌, ◌<◌, ◌≤◌, ◌+◌, ◌-ℤ◌, ◌+ℤ◌, ◌*◌, ◌^◌, ℕ, pos, ap, ap₂, ◌∙◌, sym, subst, FitsSigned, rules, arith}
use Rattle.std.proofs.Math.Nat.{mul-le-mul_right}
use Rattle.std.proofs.lemmas.Int.{to_z-of_z}
use Rattle.std.specs.Int.{w128}
use Rattle.fraction128.specs.Fractions.{floor_of_signed}
use Rattle.flow_measure.specs.Occupancy.{IsSlack}
use Rattle.flow_measure.proofs.Slacks.{slack-of}
use Rattle.flow_measure.proofs.margin.MarginMeter.slack.Goals as goal

-- the next read fits the numbers of the code
next-small : (lifted groups group offset n : ℕ) → lifted ≤ 2 ^ 42 + 480 → groups ≤ 2 ^ 41 → group ≤ n * 2 ^ 51 → n ≤ 262144 → offset < 2 ^ 94
    → (lifted + groups) * group + offset < 2 ^ 124
next-small lifted groups group offset n low few wide most slow =
    let a : (lifted + groups) * group ≤ (2 ^ 42 + 480 + 2 ^ 41) * group = mul-le-mul_right group (omega (arith, low, few)) in
    omega (arith, a, wide, most, slow)

pub overflow_add-next-2 : goal.overflow_add-next-2
overflow_add-next-2 c =
    let s = c.sizes_of-sizes in
    omega (
      arith,
      next-small c.lifted.result c.from.result s.result.group s.result.offset c.args.params.now.n c.lifted.ensures.small
          (omega (arith, c.from.ensures, c.requires.few)) s.ensures.group_small c.args.params.now.n_most s.ensures.offset_small,
    )

pub floor_difference-requires-clause-up_small : goal.floor_difference-requires-clause-up_small
floor_difference-requires-clause-up_small c =
    let s = c.sizes_of-sizes in
    next-small c.lifted.result c.from.result s.result.group s.result.offset c.args.params.now.n c.lifted.ensures.small
    (omega (arith, c.from.ensures, c.requires.few)) s.ensures.group_small c.args.params.now.n_most s.ensures.offset_small

pub returns : goal.returns
returns c = λ stamps passed h fed whole anchor is.
    let p = c.args.params.now in
    let s = c.sizes_of-sizes in
    let fits : FitsSigned w128 c.floor_difference.result = search rules in
    let n0_fits : FitsSigned w128 c.args.n0 = search rules in
    let lift : pos c.lifted.result ≡ c.args.n0 +ℤ pos 480 = c.lifted.ensures.value ∙ ap (λ z. z +ℤ pos 480) (to_z-of_z w128 c.args.n0 n0_fits) in
    let groups : c.from.result ≡ c.args.groups = c.from.ensures in
    let parts : c.from-2.result * s.result.group ≡ 480 * s.result.group = ap (λ k. k * s.result.group) c.from-2.ensures in
    let next : (c.lifted.result + c.from.result) * s.result.group + s.result.offset ≡ (c.lifted.result + c.args.groups) * s.result.group + s.result.offset =
    ap (λ k. (c.lifted.result + k) * s.result.group + s.result.offset) groups in
    let value = c.floor_difference.ensures.value
    ∙ ap₂ (λ a b. floor_of_signed (pos a -ℤ pos (c.args.self.now.latest + b)) s.result.den) next parts in
    subst (IsSlack p.media p.n stamps c.args.gapped) (sym (to_z-of_z w128 c.floor_difference.result fits ∙ value))
    (slack-of p.media p.n c.args.groups c.args.gapped c.args.self.now c.lifted.result s.result.den s.result.group s.result.step s.result.offset
    c.args.n0 stamps passed s.ensures.times s.ensures.sizes s.ensures.den_some p.n_some lift h fed whole anchor is)
