use Rattle.std.proofs.Common.{rules, subst, sym, ◌≡◌}
use Rattle.timing_base.specs.Judged.{judged}
use Rattle.timing_base.specs.Shifts.{FlowOptions}
use Rattle.timing_base.specs.declared.media.Kind.{Kind}
use Rattle.udp_rtp.specs.Flow.{flow}
use Rattle.timing_reach.specs.Asked.{OnRun}
use Rattle.timing_reach.specs.Shapes.{HasShape}
use Rattle.timing_reach.specs.shape.Readings.{IsKeptFlow}
use Rattle.timing_reach.proofs.Takings.{if-ok}
use Rattle.timing_reach.proofs.shape.answer_kept.Goals as goal

pub returns-clause-answers : goal.returns-clause-answers
returns-clause-answers c =
    let job = c.args.job.now in
    let m = c.args.media.now in
    let given : c.flow.inside.options ≡ job.flow.options = search rules in
    let same : c.job.inside.kind ≡ job.kind = search rules in
    if-ok c.told_of.result
    (λ answer answers items h.
    subst (λ (k : Kind). OnRun m (HasShape job.list job.flow.options.shift k m items) (judged (flow items m) m.pt job.flow.options) answer) same
    (subst (λ (x : FlowOptions). OnRun m (HasShape job.list x.shift c.job.inside.kind m items) (judged (flow items m) m.pt x) answer) given
    (answers job.list items (subst (λ (x : FlowOptions). IsKeptFlow m x job.list items c.args.kept) (sym given) h))))
    c.told_of.ensures.answers

pub returns-clause-some : goal.returns-clause-some
returns-clause-some c =
    let job = c.args.job.now in
    let m = c.args.media.now in
    let items = c.requires.items in
    let given : c.flow.inside.options ≡ job.flow.options = search rules in
    let same : c.job.inside.kind ≡ job.kind = search rules in
    if-ok c.told_of.result
    (λ answer answers. record {
      items = items;
      on_run = subst (λ (k : Kind). OnRun m (HasShape job.list job.flow.options.shift k m items) (judged (flow items m) m.pt job.flow.options) answer) same
          (subst (λ (x : FlowOptions). OnRun m (HasShape job.list x.shift c.job.inside.kind m items) (judged (flow items m) m.pt x) answer) given
          (answers job.list items (subst (λ (x : FlowOptions). IsKeptFlow m x job.list items c.args.kept) (sym given) c.requires.flow_is)));
    })
    c.told_of.ensures.answers
