use Rattle.std.proofs.Common.{◌≡◌, ◌≤◌, ◌<◌, ◌+◌, ◌*◌, refl, ◌∙◌, sym, ap, arith}
use Rattle.std.proofs.Math.Nat.{mul-le-mul_right}
use Rattle.flow_measure.specs.Extremes.{only}
use Rattle.flow_measure.proofs.Curved.{curve-more, next-column}
use Rattle.flow_measure.proofs.Widths.{width_of-more}
use Rattle.flow_measure.proofs.columns.curve.Curve.begin.Goals as goal

pub invariant_of-self-clause-width_is : goal.invariant_of-self-clause-width_is
invariant_of-self-clause-width_is g c =
    let s = c.args.self.now in
    let p : (s.begun + 1) * s.width ≤ s.most * s.width = mul-le-mul_right s.width (omega (arith, c.requires.more)) in
    width_of-more s.seen s.most s.width s.most_some s.width_is (omega (arith, p, s.filled, c.requires.full, s.width_some))

pub returns-clause-draws : goal.returns-clause-draws
returns-clause-draws g c = λ numbers h e.
    let s = c.args.self.now in
    curve-more g.N.Integer.value s _ numbers s.begun c.of.result refl refl (omega arith) refl
    (next-column s.seen s.room s.begun s.width s.filled c.requires.full s.width_some) (omega arith) c.requires.more
    (record {
      fresh = λ _. c.of.ensures ∙ ap only (sym e);
      kept = λ before. absurd (omega (arith, before));
    }) h
