use Rattle.std.proofs.Common.{◌++◌}
use Rattle.std.specs.Prelude.{string_bytes}
use Rattle.timing_report.proofs.Appends.{two_ok}
use Rattle.findings_report.specs.Text.{buffer_text, ends_text, target_told}
use Rattle.findings_report.proofs.sentences.add_pacing.Goals as goal

pub returns : goal.returns
returns c =
    let s = c.args.setting in
    let b = c.args.buffer.now in
    let r = c.add_target.result in
    two_ok r (string_bytes c.args.text.now) (buffer_text s b) (ends_text b ++ target_told b.target) _ _ c.in_ok-add_buffer.ensures
    (two_ok r _ (ends_text b) (target_told b.target) _ _ c.in_ok-add_ends.ensures c.add_target.ensures)
