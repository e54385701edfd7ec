use Rattle.std.proofs.Common.{sym, subst}
use Rattle.std.specs.List.{slice_index_or}
use Rattle.timing_base.specs.Verdicts.{Judged}
use Rattle.timing_base.specs.declared.media.Kind.TheVariants.{N, NL, W}
use Rattle.timing_base.specs.declared.row.KindVerdict.TheVariants.{Pass}
use Rattle.run_meter.specs.Runs.{NameFirst}
use Rattle.flow_page.specs.drawing.Drawn.{AreRegions}
use Rattle.flow_page.specs.drawing.drawing.Regions.{PutsKind}
use Rattle.flow_page.proofs.lemmas.drawing.Around.{names-at, regions-are}
use Rattle.flow_page.proofs.drawing.regions.RegionMeters.finish.Goals as goal

pub returns : goal.returns
returns c = λ m n stamps more is some count h named.
    let i = c.judged.inside in
    let three = names-at m n stamps i.kinds (subst (λ (j : Judged). NameFirst m n stamps j.kinds) (sym c.judged.view_is) named) in
    let narrow = slice_index_or i.kinds 0 Pass in
    let first = c.in_ok-put_region.ensures m n N stamps more is some count h.narrow_draws three.0 in
    let second = c.in_ok-put_region-2.ensures m n NL stamps more is some count h.narrow_linear_draws three.1.0 in
    let third = c.in_ok-put_region-3.ensures m n W stamps more is some count h.wide_draws three.1.1.0 in
    subst (λ (j : Judged). AreRegions m n stamps 0 j.kinds c.from_vec.result) c.judged.view_is
    (subst (AreRegions m n stamps 0 i.kinds) (sym c.from_vec.ensures)
    (regions-are m n stamps i.kinds c.put_region.new.regions.items c.put_region-2.new.regions.items c.put_region-3.new.regions.items three.1.1.1
    (subst (λ l. PutsKind m n stamps N narrow l c.put_region.new.regions.items) c.new-regions.ensures.items first) second third))
