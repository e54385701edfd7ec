use Rattle.std.proofs.Common.{ap, false, refl, rules, sym, subst, true, ◌≡◌, ◌∙◌}
use Rattle.timing_base.specs.Shifts.{Shift}
use Rattle.timing_base.specs.Judged.{judged}
use Rattle.udp_rtp.specs.Flow.{flow}
use Rattle.timing_steps.specs.Answers.{Answer}
use Rattle.timing_steps.specs.Queries.{judged_ends}
use Rattle.timing_steps.specs.Flows.{not_judged}
use Rattle.timing_reach.specs.Asked.{OnRun}
use Rattle.timing_reach.specs.Shapes.{HasShape}
use Rattle.timing_reach.specs.shape.Shaping.{CanShape, IsShapeOf}
use Rattle.timing_reach.proofs.Keepings.{can-shape, run-kept}
use Rattle.timing_reach.proofs.Judgments.{not-run}
use Rattle.timing_reach.proofs.Takings.{if-ok}
use Rattle.timing_reach.proofs.shape.told_of.Goals as goal

pub shape_kept-requires : goal.shape_kept-requires
shape_kept-requires c =
    let given : c.options.inside.shift ≡ c.args.options.shift = search rules in
    subst (λ (s : Shift). CanShape c.args.media.now s c.in-Judged.judged c.args.kept.packets) (sym given)
    (can-shape c.args.media.now c.args.options c.requires.0 c.args.kept c.in-Judged.judged c.in-Judged.is c.requires.1)

pub returns-in-Judged-clause-answers : goal.returns-in-Judged-clause-answers
returns-in-Judged-clause-answers c =
    let m = c.args.media.now in
    let options = c.args.options in
    let given : c.options.inside.shift ≡ options.shift = search rules in
    if-ok c.shape_kept.result
    (λ answer shape list items h.
    let run = run-kept m options list items c.args.kept c.in-Judged.judged c.in-Judged.is h in
    let shaped = subst (λ (s : Shift). IsShapeOf m c.args.kind s c.in-Judged.judged c.args.kept.packets answer) given shape in
    subst (λ v. OnRun m (HasShape list options.shift c.args.kind m items) v answer) (sym run.1) (shaped list items run.0 run.2 h.packets))
    c.shape_kept.ensures.shape

pub returns : goal.returns
returns c =
    let m = c.args.media.now in
    let options = c.args.options in
    record {
      ends = if-ok c.not_judged.result (λ answer is. subst (λ (a : Answer). judged_ends false a.status ≡ true) (sym is) refl) c.not_judged.ensures;
      answers = if-ok c.not_judged.result
          (λ answer is list items h. not-run m (HasShape list options.shift c.args.kind m items) (judged (flow items m) m.pt options) answer
          (λ j s. c.in_default.not-Judged j (h.verdict_is ∙ s)) (is ∙ ap (not_judged m) h.verdict_is))
          c.not_judged.ensures;
    }
