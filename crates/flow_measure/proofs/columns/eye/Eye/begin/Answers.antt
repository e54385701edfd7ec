use Rattle.std.proofs.Common.{◌≡◌, ◌<◌, ◌≤◌, ◌+◌, ◌-◌, ◌*◌, refl, ap, ◌∙◌, sym, arith}
use Rattle.flow_measure.specs.Columns.{column_at}
use Rattle.flow_measure.specs.Extremes.{joined, only}
use Rattle.flow_measure.specs.Stands.{eye_columns}
use Rattle.flow_measure.proofs.Eyed.{before-end, eye-more, next-column}
use Rattle.flow_measure.proofs.columns.eye.Eye.begin.Goals as goal

pub overflow_sub-self-2 : goal.overflow_sub-self-2
overflow_sub-self-2 g c =
    let s = c.args.self.now in
    let early = before-end s.group s.width s.opened s.width_some (omega (arith, c.requires.more, s.columns_are)) in
    omega (arith, c.min.ensures, early, s.width_some)

pub invariant_of-self-clause-filled : goal.invariant_of-self-clause-filled
invariant_of-self-clause-filled g c =
    let s = c.args.self.now in
    let early = before-end s.group s.width s.opened s.width_some (omega (arith, c.requires.more, s.columns_are)) in
    omega (arith, c.min.ensures, early, s.width_some, s.filled, c.requires.full)

pub invariant_of-self-clause-room_few : goal.invariant_of-self-clause-room_few
invariant_of-self-clause-room_few g c =
    let s = c.args.self.now in
    let early = before-end s.group s.width s.opened s.width_some (omega (arith, c.requires.more, s.columns_are)) in
    let back : s.opened + 1 - 1 ≡ s.opened = omega arith in
    omega (arith, c.min.ensures, early, s.width_some, ap (λ x. x * s.width) back)

pub returns-clause-draws : goal.returns-clause-draws
returns-clause-draws g c = λ numbers h e.
    let s = c.args.self.now in
    let value = g.N.Integer.value in
    let last = ap only (sym e) in
    let here = next-column s c.requires.full c.requires.more in
    eye-more value s _ numbers s.opened c.widened.result refl refl refl c.max-self.ensures refl here s.opened_begun c.requires.more
    (record {
      fresh = λ few. c.widened.ensures.fresh few ∙ last;
      kept = λ some. c.widened.ensures.begun some ∙ ap (joined (column_at (eye_columns value s) s.opened)) last;
    }) h
