use Rattle.std.proofs.Common.{◌+◌, ◌∙◌, min, refl, sym, ap}
use Rattle.flow_page.proofs.lemmas.drawing.Around.{region-shown}
use Rattle.flow_page.proofs.drawing.region.RegionMeter.finish.Goals as goal

pub returns : goal.returns
returns c = λ m n kind stamps more is some count h named.
    region-shown m n kind c.args.self.now c.args.proof stamps more c.start_around-start.result c.end_around-end.result _ is some
    c.start_around-start.ensures (c.end_around-end.ensures.value ∙ ap (λ k. min (c.args.proof.to + 51) k) (sym count)) h named refl refl refl
    c.saturating_sub.ensures c.in_ok-columns.ensures
