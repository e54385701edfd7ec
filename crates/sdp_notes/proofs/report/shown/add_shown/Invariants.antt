use Rattle.std.proofs.Common.{◌≡◌, ◌++◌, drop}
use Rattle.std.specs.Prelude.{string_bytes}
use Rattle.sdp_notes.specs.report.Text.{shown}
use Rattle.sdp_notes.proofs.report.shown.add_shown.Given as goal

abbrev pub invariant-loop-byte : goal.invariant-loop-byte
invariant-loop-byte l = string_bytes l.text ++ shown (drop l.byte-index l.bytes) ≡ string_bytes l.fn.text ++ shown l.bytes
