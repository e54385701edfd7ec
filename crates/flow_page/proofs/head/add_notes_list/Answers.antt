use Rattle.std.proofs.Common.{List, ℕ, ◌++◌}
use Rattle.std.specs.Prelude.{codes, string_bytes}
use Rattle.timing_report.proofs.Appends.{two_ok}
use Rattle.flow_page.specs.Head.{note_items}
use Rattle.flow_page.proofs.head.add_notes_list.Goals as goal

pub returns : goal.returns
returns c =
    let r = c.add_markup-2.result in
    let start : List ℕ = codes "<p>By SMPTE ST 2110-21. How the captures end:</p>\n<ol>" in
    let items : List ℕ = note_items c.args.names.now c.args.notes.now in
    let end : List ℕ = codes "</ol>\n" in
    two_ok r (string_bytes c.args.text.now) start (items ++ end) _ _ c.in_ok-add_markup.ensures
    (two_ok r _ items end _ _ c.in_ok-add_note_items.ensures c.add_markup-2.ensures)
