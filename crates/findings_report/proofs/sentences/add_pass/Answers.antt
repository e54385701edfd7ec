use Rattle.std.proofs.Common.{◌++◌, FitsSigned, rules}
use Rattle.std.proofs.lemmas.Int.{to_z-of_z}
use Rattle.std.specs.Int.{w64}
use Rattle.std.specs.Prelude.{string_bytes}
use Rattle.timing_report.proofs.Appends.{two_ok}
use Rattle.findings_report.specs.Text.{later_text, pass_bucket, pass_limits}
use Rattle.findings_report.proofs.sentences.add_pass.Goals as goal

pub returns : goal.returns
returns c =
    let a = c.args in
    let r = c.add_slack.result in
    let fits : FitsSigned w64 a.slack = search rules in
    let later = simp to_z-of_z at c.add_slack.ensures in
    two_ok r (string_bytes a.text.now) (pass_bucket a.setting a.bucket a.bucket_limit) (pass_limits a.buffer a.buffer_limit ++ later_text a.slack) _ _
    c.in_ok-add_pass_bucket.ensures
    (two_ok r _ (pass_limits a.buffer a.buffer_limit) (later_text a.slack) _ _ c.in_ok-add_pass_limits.ensures later)
