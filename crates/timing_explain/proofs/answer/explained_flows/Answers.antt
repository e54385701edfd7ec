use Rattle.std.proofs.Common.{◌<◌, ◌∙◌, ap, length, map, take_all}
use Rattle.std.proofs.lemmas.List.Elements.{All-map, All-same}
use Rattle.flow_findings.specs.Findings.{explained}
use Rattle.flow_findings.specs.declared.explained.Explained.{Explained}
use Rattle.timing_explain.proofs.answer.explained_flows.Goals as goal

pub returns-clause-session : goal.returns-clause-session
returns-clause-session c =
    let session = c.args.session.now in
    let flows = c.args.flows.now in
    let of = explained session c.args.captures.now in
    let whole = c.loop-flow.invariant ∙ ap (map of) (take_all c.loop-flow.flow-index flows c.loop-flow-test.false) in
    All-same (λ (e : Explained). e.media < length session) c.loop-flow.list.items (map of flows) whole
    (All-map (λ (e : Explained). e.media < length session) of flows c.requires)
