use Rattle.std.proofs.Common.{◌≡◌, ◌<◌, ◌+◌, ◌++◌, ◌∷◌, [], length, ap, ◌∙◌, sym, subst, arith}
use Rattle.sender_params.specs.Reads.{anchor_of}
use Rattle.offset_window.specs.Stands.{StandsFor}
use Rattle.flow_measure.specs.Offsets.{MeasuresWindows, window_in}
use Rattle.flow_measure.specs.declared.windows.WindowMeters.{WindowMeters}
use Rattle.flow_measure.proofs.Windowed.{first-fed, later-fed}
use Rattle.flow_measure.proofs.windows.WindowMeters.feed.Goals as goal
use Rattle.flow_measure.proofs.windows.WindowMeters.feed.Goals.{then-self-eq0, else-self-eq0}

pub returns-clause-stands : goal.returns-clause-stands
returns-clause-stands c = λ stamps h.
    let p = c.args.params.now in
    let at = c.args.at in
    let old = c.args.self.now in
    let new = c.put.new.self in
    elim c.if-self-eq0.branch as (λ _. MeasuresWindows p.media p.n new (stamps ++ at ∷ [])) [
      | then-self-eq0 w ↦
          let none : length stamps ≡ 0 = sym h.seen ∙ w.if-self-eq0.true in
          let seen : new.narrow.seen ≡ 1 = c.put.ensures.seen ∙ ap (λ (x : WindowMeters). x.narrow.seen + 1) w.self-is ∙ ap (λ k. k + 1) w.start.ensures.seen in
          first-fed p at stamps new none seen
          (λ kind. c.put.ensures.stands kind (anchor_of p.media at) []
          (subst (λ x. StandsFor p kind (anchor_of p.media at) (window_in kind x) []) (sym w.self-is) (w.start.ensures.stands kind)))
      | else-self-eq0 w ↦
          let some : 0 < length stamps = omega (arith, h.seen, w.if-self-eq0.false) in
          let seen : new.narrow.seen ≡ old.narrow.seen + 1 = c.put.ensures.seen ∙ ap (λ (x : WindowMeters). x.narrow.seen + 1) w.self-is in
          later-fed p at stamps old new some seen h
          (λ kind anchor stamps k. c.put.ensures.stands kind anchor stamps
          (subst (λ x. StandsFor p kind anchor (window_in kind x) stamps) (sym w.self-is) k))
    ]
