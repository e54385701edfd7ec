use Rattle.std.proofs.Common.{◌≡◌, map, take, ap, ◌∙◌, sym, subst}
use Rattle.std.proofs.lemmas.List.{take-map}
use Rattle.flow_measure.specs.Columns.{AreCurve}
use Rattle.flow_measure.specs.Extremes.{extremes_of}
use Rattle.flow_measure.proofs.Curved.{curve-drawn}
use Rattle.flow_measure.proofs.columns.curve.Curve.finish.Goals as goal

pub returns-clause-curve : goal.returns-clause-curve
returns-clause-curve g c = λ numbers h.
    let s = c.args.self.now in
    let extremes = extremes_of g.N.Integer.value in
    let is : c.from_vec.result ≡ map extremes (take s.begun c.deref.result.now) = c.from_vec.ensures ∙ c.in_ok-list.ensures in
    let same : take s.begun (map extremes s.columns.items) ≡ map extremes (take s.begun c.deref.result.now) =
    take-map extremes s.begun s.columns.items ∙ ap (λ l. map extremes (take s.begun l)) (sym c.deref.ensures.value) in
    subst (AreCurve s.most numbers s.seen) (same ∙ sym is) (curve-drawn g.N.Integer.value s numbers h)
