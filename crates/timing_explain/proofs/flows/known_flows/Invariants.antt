use Rattle.timing_explain.specs.Ends.{EndsKnown}
use Rattle.timing_measure.specs.flows.Taken.{IsThrough}
use Rattle.timing_explain.proofs.flows.known_flows.Given as goal

abbrev pub invariant-loop-flow : goal.invariant-loop-flow
invariant-loop-flow l = IsThrough EndsKnown l.fn.flows.items l.known.items l.flow-iterator.rest.items
