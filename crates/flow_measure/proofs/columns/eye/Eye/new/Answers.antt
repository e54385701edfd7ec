use Rattle.std.proofs.Common.{◌≡◌, ◌≤◌, ap, ◌∙◌, arith}
use Rattle.std.specs.Int.{div_ceil}
use Rattle.flow_measure.proofs.Widths.{ceil-back, ceil-some}
use Rattle.flow_measure.proofs.columns.eye.Eye.new.Goals as goal

pub invariant_of-result-clause-width_some : goal.invariant_of-result-clause-width_some
invariant_of-result-clause-width_some g c =
    let w : c.div_ceil-width.result ≡ div_ceil c.args.group c.args.most =
    c.div_ceil-width.ensures ∙ ap (div_ceil c.args.group) c.from.ensures in
    omega (arith, w, ceil-some c.args.group c.args.most (omega arith) (omega arith))

pub invariant_of-result-clause-columns_most : goal.invariant_of-result-clause-columns_most
invariant_of-result-clause-columns_most g c =
    let w : c.div_ceil-width.result ≡ div_ceil c.args.group c.args.most =
    c.div_ceil-width.ensures ∙ ap (div_ceil c.args.group) c.from.ensures in
    let count : c.in_ok-vec.field-0.len ≡ div_ceil c.args.group (div_ceil c.args.group c.args.most) =
    c.in_ok-vec.ensures.len ∙ c.div_ceil-count.ensures ∙ ap (div_ceil c.args.group) w in
    omega (arith, count, ceil-back c.args.group c.args.most (omega arith) (omega arith))
