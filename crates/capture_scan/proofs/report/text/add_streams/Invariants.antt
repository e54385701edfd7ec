use Rattle.std.proofs.Common.{◌≡◌, ◌++◌, ◌+◌, drop}
use Rattle.std.specs.Prelude.{string_bytes}
use Rattle.capture_scan.specs.report.Text.{streams_text}
use Rattle.capture_scan.proofs.report.text.add_streams.Given as goal

abbrev pub invariant-loop-index : goal.invariant-loop-index
invariant-loop-index l =
    string_bytes l.text ++ streams_text (l.index + 1) (drop l.index l.streams) ≡ string_bytes l.fn.text ++ streams_text 1 l.streams
