use Rattle.std.proofs.Common.{FitsSigned, ◌∙◌, refl, rules}
use Rattle.std.proofs.lemmas.Int.{to_z-of_z}
use Rattle.std.specs.Int.{w64, w128}
use Rattle.flow_measure.proofs.rows.maker.RowMaker.begin.Goals as goal

pub returns-clause-begins : goal.returns-clause-begins
returns-clause-begins c =
    let a = c.anchor_at-n0.result in
    let x = c.since_start.result in
    let y = c.offset_of.result in
    let z = c.latency_of.result in
    let g = c.args.kept.level.gapped.occupancy in
    let l = c.args.kept.level.linear.occupancy in
    let a_fits : FitsSigned w128 a = search rules in
    let x_fits : FitsSigned w128 x = search rules in
    let y_fits : FitsSigned w128 y = search rules in
    let z_fits : FitsSigned w128 z = search rules in
    let g_fits : FitsSigned w64 g = search rules in
    let l_fits : FitsSigned w64 l = search rules in
    record {
      first = λ none. to_z-of_z w128 a a_fits ∙ c.anchor_at-n0.ensures.first none;
      later = λ before some. to_z-of_z w128 a a_fits ∙ c.anchor_at-n0.ensures.later before some;
      before_is = refl;
      row_is = record {
        run = refl;
        group = refl;
        rec_is = refl;
        stamp = refl;
        first = to_z-of_z w128 x x_fits ∙ c.since_start.ensures.value;
        timestamp_is = refl;
        step = c.step_with-step.ensures;
        offset = to_z-of_z w128 y y_fits ∙ c.offset_of.ensures.value;
        latency = to_z-of_z w128 z z_fits ∙ c.latency_of.ensures.value;
        bucket = refl;
        gapped_least = to_z-of_z w64 g g_fits;
        gapped = to_z-of_z w64 g g_fits;
        linear_least = to_z-of_z w64 l l_fits;
        linear = to_z-of_z w64 l l_fits;
      };
    }
