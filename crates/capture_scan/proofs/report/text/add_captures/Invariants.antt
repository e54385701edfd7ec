use Rattle.std.proofs.Common.{◌≡◌, ◌++◌, drop}
use Rattle.std.specs.Prelude.{string_bytes}
use Rattle.capture_scan.specs.report.Text.{captures_told}
use Rattle.capture_scan.proofs.report.text.add_captures.Given as goal

abbrev pub invariant-loop-file : goal.invariant-loop-file
invariant-loop-file l =
    string_bytes l.text ++ captures_told l.after (drop l.file l.names) (drop l.file l.notes)
    ≡ string_bytes l.fn.text ++ captures_told l.after l.names l.notes
