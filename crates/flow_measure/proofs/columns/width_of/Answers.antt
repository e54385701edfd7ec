use Rattle.std.proofs.Common.{◌≡◌, ◌≤◌, ◌<◌, ◌/◌, ◌^◌, max, ap, ◌∙◌, arith}
use Rattle.std.specs.Int.{div_ceil}
use Rattle.flow_measure.specs.Columns.{width_of}
use Rattle.flow_measure.proofs.Widths.{ceil-least, width-found, width-once, width_of-is}
use Rattle.flow_measure.proofs.columns.width_of.Goals as goal

pub next_power_of_two-requires : goal.next_power_of_two-requires
next_power_of_two-requires c =
    let d : c.div_ceil.result ≡ div_ceil c.args.count c.args.most = c.div_ceil.ensures ∙ ap (div_ceil c.args.count) c.from.ensures in
    omega (arith, d, ceil-least c.args.count c.args.most (2 ^ 63) c.requires.some (omega (arith, c.requires.few)))

pub returns : goal.returns
returns c =
    let count = c.args.count in
    let most = c.args.most in
    let d : c.div_ceil.result ≡ div_ceil count most = c.div_ceil.ensures ∙ ap (div_ceil count) c.from.ensures in
    let r = c.next_power_of_two.result in
    let next = c.next_power_of_two.ensures in
    width-once count most r (width_of count most)
    (width-found count most r c.requires.some next.power (omega (arith, d, next.lower_bound)) (omega (arith, d, next.upper_bound)))
    (width_of-is count most c.requires.some)
