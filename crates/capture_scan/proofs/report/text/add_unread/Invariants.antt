use Rattle.std.proofs.Common.{◌≡◌, ◌++◌, drop}
use Rattle.std.specs.Prelude.{string_bytes}
use Rattle.std.specs.List.{flat_map}
use Rattle.capture_scan.specs.report.Text.{unread_text}
use Rattle.capture_scan.proofs.report.text.add_unread.Given as goal

abbrev pub invariant-loop-one : goal.invariant-loop-one
invariant-loop-one l =
    string_bytes l.text ++ flat_map unread_text (drop l.one-index l.unread)
    ≡ string_bytes l.fn.text ++ flat_map unread_text l.unread
