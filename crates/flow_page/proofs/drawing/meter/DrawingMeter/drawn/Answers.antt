use Rattle.std.proofs.Common.{refl, sym, subst}
use Rattle.run_meter.specs.Runs.{stamps_of}
use Rattle.flow_page.specs.drawing.drawing.Regions.{DrawsRegions}
use Rattle.flow_page.proofs.lemmas.drawing.Longest.{drawn-part, stamps-parts}
use Rattle.flow_page.proofs.drawing.meter.DrawingMeter.drawn.Goals as goal

pub returns : goal.returns
returns c = λ m shift r fed committed is some judged h.
    let s = c.args.self.now in
    let parts = stamps-parts shift fed committed h.rest h.whole in
    drawn-part m shift r c.args.judged.now committed s.committed _ is some judged h.committed_are h.run_is refl refl refl c.in_ok-curves.ensures
    (c.in_ok-finish.ensures m r.n (stamps_of shift committed) (stamps_of shift h.rest) is some (sym h.committed_are.packets_draw.seen_is)
    (subst (DrawsRegions m r.n s.regions) parts h.regions_are) judged.names)
