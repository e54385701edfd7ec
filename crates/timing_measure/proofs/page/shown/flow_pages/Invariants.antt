use Rattle.timing_measure.specs.page.Ends.{EndsPage}
use Rattle.timing_measure.specs.flows.Taken.{IsThrough}
use Rattle.timing_measure.proofs.page.shown.flow_pages.Given as goal

abbrev pub invariant-loop-flow : goal.invariant-loop-flow
invariant-loop-flow l = IsThrough EndsPage l.fn.flows.items l.pages.items l.flow-iterator.rest.items
