use Rattle.std.proofs.Common.{◌≡◌, ◌++◌, drop}
use Rattle.std.specs.Prelude.{string_bytes}
use Rattle.timing_report.specs.Text.{text_of_lines}
use Rattle.timing_report.specs.Verdict.{runs_lines}
use Rattle.timing_report.proofs.verdict.add_runs.Given as goal

abbrev pub invariant-loop-index : goal.invariant-loop-index
invariant-loop-index l =
    string_bytes l.text ++ text_of_lines (runs_lines l.media l.index (drop l.index l.runs))
    ≡ string_bytes l.fn.text ++ text_of_lines (runs_lines l.media 0 l.runs)
