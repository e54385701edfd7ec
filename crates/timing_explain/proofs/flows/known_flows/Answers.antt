use Rattle.std.proofs.Common.{◌≡◌, length, refl, rules}
use Rattle.timing_explain.specs.Ends.{EndsKnown}
use Rattle.timing_measure.proofs.Eaches.{through-begin, through-end, through-next}
use Rattle.timing_explain.proofs.flows.known_flows.Goals as goal

pub loop-flow-init : goal.loop-flow-init
loop-flow-init c = through-begin EndsKnown c.args.flows.items _ c.new-known.result.items c.new-known.ensures.items (search rules)

pub loop-flow-preserved : goal.loop-flow-preserved
loop-flow-preserved c =
    through-next EndsKnown c.args.flows.items c.loop-flow.known.items c.push.new.self.items c.loop-flow.flow-iterator.rest.items
    c.next.new.self.rest.items c.in-Some.flow c.known_flow.result
    c.in-Some.ensures.steps.0 c.in_ok-push.ensures.items
    (λ m number options packets h. c.known_flow.ensures m number options packets (c.in_ok-end.ensures refl (tt, tt) m number options packets h))
    c.loop-flow.invariant

pub returns : goal.returns
returns c =
    let none : length c.loop-flow.flow-iterator.rest.items ≡ 0 = search rules in
    through-end EndsKnown c.args.flows.items c.loop-flow.known.items c.loop-flow.flow-iterator.rest.items none c.loop-flow.invariant
