use Rattle.std.proofs.Common.{FitsSigned, ap, ◌∙◌, sym, rules}
use Rattle.std.proofs.lemmas.Int.{to_z-of_z}
use Rattle.std.specs.Int.{w128}
use Rattle.flow_page.proofs.drawing.packets.LevelColumns.feed.Goals as goal

pub returns-clause-draws : goal.returns-clause-draws
returns-clause-draws c = λ level h is.
    let s = c.args.self.now in
    let x = c.args.number in
    let fits : FitsSigned w128 x = search rules in
    let number = is ∙ sym (to_z-of_z w128 x fits) in
    record {
      curve_draws = c.feed.ensures.draws level h.curve_draws (ap level s.curve_is ∙ number);
      eye_draws = c.feed-2.ensures.draws level h.eye_draws (ap level s.eye_is ∙ number);
    }
