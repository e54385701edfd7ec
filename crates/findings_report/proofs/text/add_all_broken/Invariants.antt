use Rattle.std.proofs.Common.{◌≡◌, ◌++◌, drop}
use Rattle.std.specs.Prelude.{string_bytes}
use Rattle.findings_report.specs.Text.{broken_lines}
use Rattle.findings_report.proofs.text.add_all_broken.Given as goal

abbrev pub invariant-loop-file : goal.invariant-loop-file
invariant-loop-file l =
    string_bytes l.text ++ broken_lines l.file (drop l.file l.captures) (drop l.file l.notes)
    ≡ string_bytes l.fn.text ++ broken_lines 0 l.captures l.notes
