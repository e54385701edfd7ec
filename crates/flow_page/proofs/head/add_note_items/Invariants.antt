use Rattle.std.proofs.Common.{◌≡◌, ◌++◌, drop}
use Rattle.std.specs.Prelude.{string_bytes}
use Rattle.flow_page.specs.Head.{note_items}
use Rattle.flow_page.proofs.head.add_note_items.Given as goal

abbrev pub invariant-loop-file : goal.invariant-loop-file
invariant-loop-file l =
    string_bytes l.text ++ note_items (drop l.file l.names) (drop l.file l.notes) ≡ string_bytes l.fn.text ++ note_items l.names l.notes
