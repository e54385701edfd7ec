use Rattle.std.proofs.Common.{◌<◌, ◌-◌, vec_len, refl, ap, ◌∙◌, sym, arith}
use Rattle.flow_measure.specs.Columns.{column_at}
use Rattle.flow_measure.specs.Extremes.{extremes_of, only}
use Rattle.flow_measure.specs.Stands.{eye_columns}
use Rattle.flow_measure.proofs.Drawn.{joined-as}
use Rattle.flow_measure.proofs.Eyed.{column-read, eye-more, last-column}
use Rattle.flow_measure.proofs.columns.eye.Eye.widen.Goals as goal

pub returns-clause-draws : goal.returns-clause-draws
returns-clause-draws g c = λ numbers h e.
    let s = c.args.self.now in
    let value = g.N.Integer.value in
    let last = last-column s c.requires.room in
    let inside : s.opened - 1 < vec_len s.columns = omega (arith, last.0, s.opened_begun, s.begun_most) in
    let read = column-read value s (s.opened - 1) c.index.result.now inside c.index.ensures in
    eye-more value s _ numbers (s.opened - 1) c.joined.result refl refl refl (omega (arith, last.0, s.opened_begun)) refl last.1
    (omega (arith, s.opened_begun)) inside
    (record {
      fresh = λ none. absurd (omega (arith, none, last.0, s.opened_begun));
      kept = λ _. joined-as (extremes_of value c.joined.result) (extremes_of value c.index.result.now) (extremes_of value c.of.result)
          (column_at (eye_columns value s) (s.opened - 1)) (only (numbers s.seen)) c.joined.ensures read (c.of.ensures ∙ ap only (sym e));
    }) h
