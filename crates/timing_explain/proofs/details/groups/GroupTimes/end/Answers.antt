use Rattle.std.proofs.Common.{◌≡◌, ◌-◌, ◌+◌, ℕ, suc, max, ap, ap₂, ◌∙◌, refl, sym, rules, arith}
use Rattle.std.proofs.lemmas.Int.{to_z-of_z}
use Rattle.std.specs.Int.{w128}
use Rattle.flow_measure.specs.Groups.{firsts_of, since_at}
use Rattle.flow_measure.proofs.Grouped.{since-first}
use Rattle.flow_findings.specs.Details.{greatest_of, span_at}
use Rattle.timing_explain.proofs.details.groups.GroupTimes.end.Goals as goal

next-is : (k : ℕ) → k + 1 ≡ suc k
next-is k = omega arith

pub returns-clause-times : goal.returns-clause-times
returns-clause-times c = λ n stamp h first last.
    let s = c.args.self.now in
    let m = c.args.params.now.media in
    let k = s.firsts.seen in
    let anchor = to_z-of_z w128 s.n0 (search rules) in
    let took : c.saturating_sub.result ≡ c.args.at - s.group_at = omega (arith, c.saturating_sub.ensures) in
    let span : c.saturating_sub.result ≡ span_at n stamp k = took ∙ ap₂ (λ a b. a - b) (sym last) (sym first) in
    let greatest : c.max-self.result ≡ max s.span c.saturating_sub.result = omega (arith, c.max-self.ensures) in
    record {
      span_is = greatest ∙ ap₂ max h.span_is span ∙ sym (ap (greatest_of (span_at n stamp)) (c.feed.ensures.seen ∙ next-is k));
      firsts_draw = c.feed.ensures.draws (since_at m s.n0 (firsts_of n stamp)) h.firsts_draw
          (since-first m s.n0 _ (firsts_of n stamp) k k s.group_at c.since_start-first.result _ refl first anchor c.since_start-first.ensures.value
          (to_z-of_z w128 c.since_start-first.result (search rules)));
    }
