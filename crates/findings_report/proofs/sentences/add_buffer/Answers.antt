use Rattle.std.proofs.Common.{◌≡◌, ◌++◌, ◌&&◌, nat_lt, subst}
use Rattle.std.specs.Prelude.{string_bytes}
use Rattle.timing_report.proofs.Appends.{two_ok}
use Rattle.findings_report.specs.Text.{early_part, late_part, space_if}
use Rattle.findings_report.proofs.sentences.add_buffer.Goals as goal

pub returns : goal.returns
returns c =
    let s = c.args.setting in
    let b = c.args.buffer.now in
    let r = c.add_early_part.result in
    let both = nat_lt 0 b.late && nat_lt 0 b.above in
    let space = subst (λ x. string_bytes c.add_space_if.new.text ≡ string_bytes c.add_late_part.new.text ++ space_if x) c.breaks_both.ensures
    c.in_ok-add_space_if.ensures in
    two_ok r (string_bytes c.args.text.now) (late_part s b) (space_if both ++ early_part s b) _ _ c.in_ok-add_late_part.ensures
    (two_ok r _ (space_if both) (early_part s b) _ _ space c.add_early_part.ensures)
