use Rattle.std.proofs.Common.{◌≡◌, ℕ, List, ◌++◌, subst}
use Rattle.std.specs.Prelude.{string_bytes}
use Rattle.findings_report.proofs.Broken.{broken_more}
use Rattle.findings_report.specs.Text.{broken_line}
use Rattle.findings_report.proofs.text.add_all_broken.Goals as goal

pub loop-file-preserved : goal.loop-file-preserved
loop-file-preserved c =
    let P : List ℕ → Type 0 =
    λ name. string_bytes c.add_broken.new.text ≡ string_bytes c.loop-file.text ++ broken_line c.loop-file.file c.in-Some.note.now name in
    broken_more c.args.captures.now c.args.notes.now c.loop-file.file c.index-captures-file.result c.in-Some.note.now _ _ _
    c.loop-file-test.true c.index-captures-file.is c.in-Some.ensures.lookup.3.0 c.in-Some.ensures.lookup.1
    (subst P c.as_str.ensures.text c.in_ok-add_broken.ensures) c.loop-file.invariant
