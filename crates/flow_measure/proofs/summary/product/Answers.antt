use Rattle.std.proofs.Common.{◌*◌, ◌^◌, pos, neg_ℤ, ◌≤ℤ◌, FitsSigned, sym, subst, rules}
use Rattle.std.specs.Int.{w128}
use Rattle.flow_measure.proofs.Summarized.{product-high, product-is, product-low}
use Rattle.flow_measure.proofs.summary.product.Goals as goal

pub returns-clause-low : goal.returns-clause-low
returns-clause-low c =
    let x = c.args.number in
    let k = c.args.times in
    let fits : FitsSigned w128 c.from.result = search rules in
    subst (λ v. neg_ℤ (pos (k * 2 ^ 84)) ≤ℤ v)
    (sym (product-is x c.from.result k c.ranges.number fits c.requires.low c.requires.high c.requires.few c.from.ensures))
    (product-low x k c.requires.low)

pub returns-clause-high : goal.returns-clause-high
returns-clause-high c =
    let x = c.args.number in
    let k = c.args.times in
    let fits : FitsSigned w128 c.from.result = search rules in
    subst (λ v. v ≤ℤ pos (k * 2 ^ 84))
    (sym (product-is x c.from.result k c.ranges.number fits c.requires.low c.requires.high c.requires.few c.from.ensures))
    (product-high x k c.requires.high)
