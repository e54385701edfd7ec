use Rattle.std.proofs.Common.{ℕ, ℤ, List, subst}
use Rattle.std.proofs.lemmas.Result.{IfOk-weaker}
use Rattle.flow_measure.specs.Columns.{AreEye}
use Rattle.flow_measure.specs.Stands.{DrawsEye}
use Rattle.flow_measure.specs.declared.columns.Extremes.{Extremes}
use Rattle.flow_page.specs.drawing.drawing.Columns.{DrawsLevel}
use Rattle.flow_page.proofs.drawing.packets.LevelColumns.eye.Goals as goal

pub returns : goal.returns
returns c =
    let s = c.args.self.now in
    IfOk-weaker c.finish.result
    (λ (list : List Extremes). (numbers : ℕ → ℤ) → DrawsEye (λ x. x) s.eye numbers → AreEye s.eye.group s.eye.most numbers s.eye.seen list)
    (λ (list : List Extremes). (level : ℕ → ℤ) → DrawsLevel s level → AreEye s.n 500 level s.seen list)
    (λ list is level h.
    subst (λ k. AreEye s.n 500 level k list) s.eye_is
    (subst (λ most. AreEye s.n most level s.eye.seen list) s.eye_most
    (subst (λ group. AreEye group s.eye.most level s.eye.seen list) s.eye_group (is level h.eye_draws))))
    c.finish.ensures.eye
