use Rattle.std.proofs.Common.{◌≡◌, ◌≤◌, ◌<◌, ◌+◌, ◌-◌, ◌*◌, refl, ◌∙◌, sym, ap, arith}
use Rattle.std.proofs.Math.Nat.{mul-le-mul_right}
use Rattle.flow_measure.specs.Columns.{column_at}
use Rattle.flow_measure.specs.Extremes.{extremes_of, only}
use Rattle.flow_measure.specs.Stands.{curve_columns}
use Rattle.flow_measure.proofs.Drawn.{joined-as}
use Rattle.flow_measure.proofs.Curved.{begun-some, column-read, curve-more, last-column}
use Rattle.flow_measure.proofs.Widths.{width_of-more}
use Rattle.flow_measure.proofs.columns.curve.Curve.widen.Goals as goal

pub invariant_of-self-clause-width_is : goal.invariant_of-self-clause-width_is
invariant_of-self-clause-width_is g c =
    let s = c.args.self.now in
    let p : s.begun * s.width ≤ s.most * s.width = mul-le-mul_right s.width s.begun_most in
    width_of-more s.seen s.most s.width s.most_some s.width_is (omega (arith, p, s.filled, c.requires.room))

pub returns-clause-draws : goal.returns-clause-draws
returns-clause-draws g c = λ numbers h e.
    let s = c.args.self.now in
    let value = g.N.Integer.value in
    let some : 0 < s.begun = begun-some s.seen s.room s.begun s.width s.filled c.requires.room in
    let read = column-read value s (s.begun - 1) c.index.result.now (omega (arith, some, s.begun_most)) c.index.ensures in
    curve-more value s _ numbers (s.begun - 1) c.joined.result refl refl (omega (arith, some)) refl
    (last-column s.seen s.room s.begun s.width s.filled c.requires.room s.room_few) (omega (arith, some)) (omega (arith, some, s.begun_most))
    (record {
      fresh = λ none. absurd (omega (arith, none, some));
      kept = λ _. joined-as (extremes_of value c.joined.result) (extremes_of value c.index.result.now) (extremes_of value c.of.result)
          (column_at (curve_columns value s) (s.begun - 1)) (only (numbers s.seen)) c.joined.ensures read (c.of.ensures ∙ ap only (sym e));
    }) h
