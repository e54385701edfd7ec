use Rattle.std.proofs.Common.{◌≡◌, ◌++◌, drop}
use Rattle.std.specs.Prelude.{string_bytes}
use Rattle.findings_report.specs.Text.{flows_lines}
use Rattle.findings_report.proofs.text.add_flows.Given as goal

abbrev pub invariant-loop-flow : goal.invariant-loop-flow
invariant-loop-flow l =
    string_bytes l.text ++ flows_lines l.session (drop l.flow-index l.flows)
    ≡ string_bytes l.fn.text ++ flows_lines l.session l.flows
