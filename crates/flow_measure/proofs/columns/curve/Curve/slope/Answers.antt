use Rattle.std.proofs.Common.{◌≡◌, ◌≤◌, ◌+◌, ◌-◌, ◌*◌, ◌/◌, ap, ◌∙◌, sym, arith}
use Rattle.std.proofs.lemmas.Nat.{le-div}
use Rattle.flow_measure.specs.Columns.{width_of}
use Rattle.flow_measure.specs.Extremes.{extremes_of}
use Rattle.flow_measure.specs.Slope.{slope_between}
use Rattle.flow_measure.proofs.Curved.{slope-none, slope-told}
use Rattle.flow_measure.proofs.Widths.{width-below}
use Rattle.flow_measure.proofs.columns.curve.Curve.slope.Goals as goal

pub returns-then-self-from : goal.returns-then-self-from
returns-then-self-from g c = λ numbers h.
    slope-none g.N.Integer.value c.args.self.now numbers (omega (arith, c.if-self-from.true, c.from.ensures)) h

pub overflow_sub-last : goal.overflow_sub-last
overflow_sub-last g c =
    let s = c.args.self.now in
    let low : s.width ≤ s.seen = omega (arith, s.width_is, width-below s.seen s.most c.requires (omega (arith, c.if-self-from.false, c.from.ensures))) in
    let one = le-div 1 s.seen s.width (omega (arith, s.width_some)) (omega (arith, low)) in
    omega (arith, one, c.full-last.ensures.value)

pub returns : goal.returns
returns g c = λ numbers h.
    let s = c.args.self.now in
    let value = g.N.Integer.value in
    let low : s.width ≤ s.seen = omega (arith, s.width_is, width-below s.seen s.most c.requires (omega (arith, c.if-self-from.false, c.from.ensures))) in
    let one = le-div 1 s.seen s.width (omega (arith, s.width_some)) (omega (arith, low)) in
    let full = c.full-last.ensures in
    let at = c.full-last.result - 1 in
    slope-told value s numbers c.index.result.now c.index-2.result.now c.between.result at
    (omega (arith, c.if-self-from.false, c.from.ensures)) (omega (arith, one, full.value)) (omega (arith, one, full.value, full.most))
    c.index.ensures c.index-2.ensures
    (c.between.ensures
    ∙ ap (λ e. slope_between e c.extremes-2.result (at * s.width)) c.extremes.ensures
    ∙ ap (λ e. slope_between (extremes_of value c.index.result.now) e (at * s.width)) c.extremes-2.ensures)
    h
