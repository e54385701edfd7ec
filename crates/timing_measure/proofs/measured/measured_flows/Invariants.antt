use Rattle.timing_measure.specs.flows.Ends.{EndsMeasured}
use Rattle.timing_measure.specs.flows.Taken.{IsThrough}
use Rattle.timing_measure.proofs.measured.measured_flows.Given as goal

abbrev pub invariant-loop-flow : goal.invariant-loop-flow
invariant-loop-flow l = IsThrough EndsMeasured l.fn.flows.items l.measured.items l.flow-iterator.rest.items
