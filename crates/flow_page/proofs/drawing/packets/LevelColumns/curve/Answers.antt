use Rattle.std.proofs.Common.{ℕ, ℤ, List}
use Rattle.std.proofs.lemmas.Result.{IfOk-weaker}
use Rattle.flow_measure.specs.Columns.{AreCurve}
use Rattle.flow_measure.specs.Stands.{DrawsCurve}
use Rattle.flow_measure.specs.declared.columns.Extremes.{Extremes}
use Rattle.flow_page.specs.drawing.drawing.Columns.{DrawsLevel}
use Rattle.flow_page.proofs.lemmas.drawing.Finishing.{curve-of}
use Rattle.flow_page.proofs.drawing.packets.LevelColumns.curve.Goals as goal

pub returns : goal.returns
returns c =
    let s = c.args.self.now in
    IfOk-weaker c.finish.result
    (λ (list : List Extremes). (numbers : ℕ → ℤ) → DrawsCurve (λ x. x) s.curve numbers → AreCurve s.curve.most numbers s.curve.seen list)
    (λ (list : List Extremes). (level : ℕ → ℤ) → DrawsLevel s level → AreCurve 1000 level s.seen list)
    (λ list is level h. curve-of 1000 s.seen s.curve.seen s.curve.most level list (is level h.curve_draws) s.curve_most s.curve_is)
    c.finish.ensures.curve
