use Rattle.std.proofs.Common.{◌≡◌, ◌<◌, length}
use Rattle.std.specs.Option.{ForSome}
use Rattle.flow_demux.specs.Steps.{StepUpTo, StepsOn}
use Rattle.flow_demux.proofs.demux.Demux.take_other.Given as goal

abbrev pub invariant-loop-flow : goal.invariant-loop-flow
invariant-loop-flow g l = record {
  steps : StepUpTo (StepsOn g.F.FlowTaker.takes g.F.FlowTaker.room g.F.FlowTaker.expects
      record { number = l.number; stamp = l.at; bytes = l.frame }) l.flow-index l.fn.self.flows.items l.flow-items;
  place : l.place ≡ l.flow-index;
  came : ForSome l.came (λ media. media < length l.fn.self.flows.items);
}
