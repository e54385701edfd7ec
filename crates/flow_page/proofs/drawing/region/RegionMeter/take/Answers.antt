use Rattle.std.proofs.Common.{refl, ap, ◌∙◌}
use Rattle.flow_page.specs.drawing.drawing.Taken.{first_with}
use Rattle.flow_page.proofs.lemmas.drawing.Around.{region-taken}
use Rattle.flow_page.proofs.drawing.region.RegionMeter.take.Goals as goal

pub returns : goal.returns
returns c = λ m n kind stamps at all goes h is.
    let s = c.args.self.now in
    region-taken m n kind s _ stamps at c.args.level refl refl
    (c.first_with-self.ensures ∙ ap (first_with s.first s.taken) c.breaks.ensures) refl all goes h is
