use Rattle.std.proofs.Common.{◌≡◌, ◌++◌, drop}
use Rattle.std.specs.Prelude.{string_bytes}
use Rattle.timing_report.specs.Text.{text_of_lines, files_lines}
use Rattle.timing_report.proofs.text.add_files.Given as goal

abbrev pub invariant-loop-file : goal.invariant-loop-file
invariant-loop-file l =
    string_bytes l.text ++ text_of_lines (files_lines l.file (drop l.file l.captures) (drop l.file l.notes))
    ≡ string_bytes l.fn.text ++ text_of_lines (files_lines 0 l.captures l.notes)
