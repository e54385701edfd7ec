use Rattle.std.proofs.Common.{◌≡◌, ◌<◌, ◌+◌, ◌-◌, ap, ◌∙◌, sym, FitsSigned, rules, arith}
use Rattle.std.proofs.lemmas.Int.{ints, to_z-of_z}
use Rattle.std.specs.Int.{w128}
use Rattle.flow_measure.specs.Frames.{timestamp_step}
use Rattle.flow_measure.specs.Groups.{step_after}
use Rattle.flow_measure.proofs.steps.StepMeter.feed.Goals as goal

pub returns-clause-stands : goal.returns-clause-stands
returns-clause-stands c = λ timestamp h e.
    let s = c.args.self.now in
    let some : 0 < s.seen = omega (arith, c.if-self-eq0.false) in
    let back : s.summary.seen ≡ s.seen - 1 = s.summary_is in
    let next : s.summary.seen + 1 ≡ s.seen = omega (arith, back, some) in
    let before : timestamp s.summary.seen ≡ s.last = ap timestamp back ∙ sym (h.last some) in
    let step : c.step_of-step.result ≡ timestamp_step (timestamp s.summary.seen) (timestamp (s.summary.seen + 1)) =
    c.step_of-step.ensures
    ∙ ap (λ x. timestamp_step x c.args.ticks) (sym before)
    ∙ ap (timestamp_step (timestamp s.summary.seen)) (sym (ap timestamp next ∙ e)) in
    let value : c.from.result ≡ step_after timestamp s.summary.seen = omega (arith, ints, c.from.ensures, step) in
    let fits : FitsSigned w128 c.from.result = search rules in
    let here : s.seen ≡ (s.seen + 1) - 1 = omega arith in
    record {
      last = λ _. sym e ∙ ap timestamp here;
      summary = c.feed.ensures.stands (step_after timestamp) h.summary (sym (to_z-of_z w128 c.from.result fits ∙ value));
    }
