use Rattle.std.proofs.Common.{◌≡◌, ◌++◌, take}
use Rattle.std.specs.Prelude.{string_bytes}
use Rattle.flow_demux.specs.Steps.{StepUpTo}
use Rattle.flow_demux.specs.Texts.{texts_of}
use Rattle.flow_demux.proofs.Moving.{MovesOn}
use Rattle.flow_demux.proofs.demux.Demux.move_texts.Given as goal

abbrev pub invariant-loop-flow : goal.invariant-loop-flow
invariant-loop-flow g l = record {
  steps : StepUpTo (MovesOn g.F.FlowWriter.moves g.F.FlowTaker.room g.F.FlowTaker.expects) l.flow-index l.fn.self.flows.items l.flow-items;
  text : string_bytes l.to ≡ string_bytes l.fn.to ++ texts_of g.F.FlowWriter.text (take l.flow-index l.fn.self.flows.items);
}
