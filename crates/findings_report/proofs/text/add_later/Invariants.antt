use Rattle.std.proofs.Common.{◌≡◌, ◌++◌, drop}
use Rattle.std.specs.Prelude.{string_bytes}
use Rattle.findings_report.specs.Text.{later_lines}
use Rattle.findings_report.proofs.text.add_later.Given as goal

abbrev pub invariant-loop-finding : goal.invariant-loop-finding
invariant-loop-finding l =
    string_bytes l.text ++ later_lines l.setting (drop l.finding-index l.findings)
    ≡ string_bytes l.fn.text ++ later_lines l.setting l.findings
