use Rattle.std.proofs.Common.{◌≡◌, map, take}
use Rattle.flow_findings.specs.Findings.{explained}
use Rattle.timing_explain.proofs.answer.explained_flows.Given as goal

abbrev pub invariant-loop-flow : goal.invariant-loop-flow
invariant-loop-flow l = l.list.items ≡ map (explained l.session l.captures) (take l.flow-index l.flows)
