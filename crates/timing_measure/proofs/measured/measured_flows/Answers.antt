use Rattle.std.proofs.Common.{◌≡◌, length, refl, rules}
use Rattle.timing_measure.specs.flows.Ends.{EndsMeasured}
use Rattle.timing_measure.proofs.Eaches.{through-begin, through-end, through-next}
use Rattle.timing_measure.proofs.measured.measured_flows.Goals as goal

pub loop-flow-init : goal.loop-flow-init
loop-flow-init c = through-begin EndsMeasured c.args.flows.items _ c.new-measured.result.items c.new-measured.ensures.items (search rules)

pub loop-flow-preserved : goal.loop-flow-preserved
loop-flow-preserved c =
    through-next EndsMeasured c.args.flows.items c.loop-flow.measured.items c.push.new.self.items c.loop-flow.flow-iterator.rest.items
    c.next.new.self.rest.items c.in-Some.flow c.measured_flow.result
    c.in-Some.ensures.steps.0 c.in_ok-push.ensures.items
    (λ m number options packets h. c.measured_flow.ensures m number options packets (c.in_ok-end.ensures refl tt m number options packets h))
    c.loop-flow.invariant

pub returns : goal.returns
returns c =
    let none : length c.loop-flow.flow-iterator.rest.items ≡ 0 = search rules in
    through-end EndsMeasured c.args.flows.items c.loop-flow.measured.items c.loop-flow.flow-iterator.rest.items none c.loop-flow.invariant
