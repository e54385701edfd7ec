use Rattle.std.proofs.Common.{FitsSigned, inl, inr, ap, ◌∙◌, sym, subst, rules}
use Rattle.std.proofs.lemmas.Int.{to_z-of_z}
use Rattle.std.specs.Int.{w128}
use Rattle.flow_measure.specs.Groups.{firsts_of, since_at}
use Rattle.flow_measure.specs.Stands.{DrawsCurve}
use Rattle.flow_findings.specs.Details.{greatest_of, span_at}
use Rattle.flow_page.proofs.lemmas.drawing.Feeding.{curve-none}
use Rattle.timing_explain.proofs.details.groups.GroupTimes.keep.Goals as goal

pub returns-clause-times : goal.returns-clause-times
returns-clause-times c = λ m n stamp rises from h k.
    let s = c.args.self.now in
    let o = c.args.other.now in
    let fits : FitsSigned w128 o.n0 = search rules in
    let same = to_z-of_z w128 o.n0 fits in
    let before = elim from as (λ _. DrawsCurve (λ x. x) s.firsts (since_at m o.n0 (firsts_of n stamp))) [
      | inl none ↦ curve-none s.firsts (since_at m o.n0 (firsts_of n stamp)) none
      | inr equal ↦ subst (λ a. DrawsCurve (λ x. x) s.firsts (since_at m a (firsts_of n stamp))) equal h.firsts_draw
    ] in
    record {
      span_is = k.span_is ∙ ap (greatest_of (span_at n stamp)) (sym c.keep.ensures.seen);
      firsts_draw = subst (λ a. DrawsCurve (λ x. x) c.keep.new.self (since_at m a (firsts_of n stamp))) (sym same)
          (c.keep.ensures.draws (since_at m o.n0 (firsts_of n stamp)) before rises k.firsts_draw);
    }
