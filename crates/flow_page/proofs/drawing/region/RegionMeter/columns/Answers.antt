use Rattle.std.proofs.Common.{◌≡◌, ◌-◌, ℕ, ℤ, List, FitsSigned, ◌∙◌, sym, subst, rules, arith}
use Rattle.std.proofs.lemmas.Int.{to_z-of_z}
use Rattle.std.proofs.lemmas.Result.{IfOk-weaker}
use Rattle.std.specs.Int.{w128}
use Rattle.flow_measure.specs.Columns.{AreCurve}
use Rattle.flow_measure.specs.Stands.{DrawsCurve}
use Rattle.flow_measure.specs.declared.columns.Extremes.{Extremes}
use Rattle.flow_page.specs.drawing.drawing.Regions.{ShowsFrom}
use Rattle.flow_page.proofs.lemmas.drawing.Around.{shown-more}
use Rattle.flow_page.proofs.drawing.region.RegionMeter.columns.Goals as goal

pub feed-requires : goal.feed-requires
feed-requires c =
    let h = c.loop-place.invariant in
    omega (arith, h.seen, c.loop-place-test.true, c.requires)

pub loop-place-preserved : goal.loop-place-preserved
loop-place-preserved c =
    let h = c.loop-place.invariant in
    let x = c.held_by.result in
    let fits : FitsSigned w128 x = search rules in
    record {
      most = c.feed.ensures.most ∙ h.most;
      past = omega (arith, h.past);
      within = omega (arith, c.loop-place-test.true);
      seen = omega (arith, c.feed.ensures.seen, h.seen, h.past);
      draws = shown-more c.args.self.now c.args.model c.args.start c.loop-place.place c.loop-place.columns c.feed.new.self c.index-level.result.now x
          h.past h.seen c.index-level.ensures c.held_by.ensures h.draws
          (λ numbers drawn is. c.feed.ensures.draws numbers drawn (is ∙ sym (to_z-of_z w128 x fits)));
    }

pub returns : goal.returns
returns c =
    let h = c.loop-place.invariant in
    let s = c.args.self.now in
    let drawn = c.loop-place.columns in
    let start = c.args.start in
    let end = c.args.end in
    let all : drawn.seen ≡ end - start = omega (arith, h.seen, h.past, h.within, c.loop-place-test.false) in
    IfOk-weaker c.finish.result
    (λ (list : List Extremes). (numbers : ℕ → ℤ) → DrawsCurve (λ x. x) drawn numbers → AreCurve drawn.most numbers drawn.seen list)
    (λ (list : List Extremes). (numbers : ℕ → ℤ) → ShowsFrom s c.args.model start end numbers → AreCurve 400 numbers (end - start) list)
    (λ list is numbers shows.
    subst (λ k. AreCurve 400 numbers k list) all
    (subst (λ most. AreCurve most numbers drawn.seen list) h.most (is numbers (h.draws numbers (λ j few. shows j (omega (arith, few, h.within)))))))
    c.finish.ensures.curve
