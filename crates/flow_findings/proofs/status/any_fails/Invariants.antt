use Rattle.std.proofs.Common.{◌≡◌, take, false}
use Rattle.std.specs.List.{list_any}
use Rattle.flow_findings.specs.Statuses.{flow_fails}
use Rattle.flow_findings.proofs.status.any_fails.Given as goal

abbrev pub invariant-loop-flow : goal.invariant-loop-flow
invariant-loop-flow l = list_any (flow_fails l.session) (take l.flow-index l.flows) ≡ false
