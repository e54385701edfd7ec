use Rattle.std.proofs.Common.{◌≡◌, length, refl, rules}
use Rattle.timing_measure.specs.page.Ends.{EndsPage}
use Rattle.timing_measure.proofs.Eaches.{through-begin, through-end, through-next}
use Rattle.timing_measure.proofs.page.shown.flow_pages.Goals as goal

pub loop-flow-init : goal.loop-flow-init
loop-flow-init c = through-begin EndsPage c.args.flows.items _ c.new-pages.result.items c.new-pages.ensures.items (search rules)

pub loop-flow-preserved : goal.loop-flow-preserved
loop-flow-preserved c =
    through-next EndsPage c.args.flows.items c.loop-flow.pages.items c.push.new.self.items c.loop-flow.flow-iterator.rest.items
    c.next.new.self.rest.items c.in-Some.flow c.flow_page.result
    c.in-Some.ensures.steps.0 c.in_ok-push.ensures.items
    (λ m number options packets h. c.flow_page.ensures m number options packets (c.in_ok-end.ensures refl (tt, tt) m number options packets h))
    c.loop-flow.invariant

pub returns : goal.returns
returns c =
    let none : length c.loop-flow.flow-iterator.rest.items ≡ 0 = search rules in
    through-end EndsPage c.args.flows.items c.loop-flow.pages.items c.loop-flow.flow-iterator.rest.items none c.loop-flow.invariant
