use Rattle.std.proofs.Common.{◌++◌}
use Rattle.std.specs.Prelude.{string_bytes}
use Rattle.timing_report.proofs.Appends.{two_ok}
use Rattle.findings_report.specs.Text.{buffer_text, offsets_text, target_told}
use Rattle.findings_report.proofs.sentences.add_phase.Goals as goal

pub returns : goal.returns
returns c =
    let s = c.args.setting in
    let b = c.args.buffer.now in
    let r = c.add_target.result in
    two_ok r (string_bytes c.args.text.now) (buffer_text s b) (offsets_text b ++ target_told b.target) _ _ c.in_ok-add_buffer.ensures
    (two_ok r _ (offsets_text b) (target_told b.target) _ _ c.in_ok-add_offsets.ensures c.add_target.ensures)
