use Rattle.std.proofs.Common.{◌≡◌, ℕ, List, ◌++◌, subst}
use Rattle.std.specs.Prelude.{string_bytes}
use Rattle.capture_scan.specs.report.Text.{capture_told}
use Rattle.capture_scan.proofs.lemmas.report.Headings.{captures-more}
use Rattle.capture_scan.proofs.report.text.add_captures.Goals as goal

pub loop-file-preserved : goal.loop-file-preserved
loop-file-preserved c =
    let P : List ℕ → Type 0 =
    λ name. string_bytes c.add_capture.new.text ≡ string_bytes c.loop-file.text ++ capture_told c.args.after.now name c.in-Some.note.now in
    captures-more c.args.after.now c.args.names.now c.args.notes.now c.loop-file.file c.index-names-file.result c.in-Some.note.now _ _ _
    c.loop-file-test.true c.index-names-file.is c.in-Some.ensures.lookup.3.0 c.in-Some.ensures.lookup.1
    (subst P c.as_str.ensures.text c.in_ok-add_capture.ensures) c.loop-file.invariant
