use Rattle.std.specs.Prelude.{string_bytes}
use Rattle.timing_report.proofs.Appends.{two_ok}
use Rattle.findings_report.specs.Text.{passed_over_text, streams_text}
use Rattle.findings_report.proofs.sentences.add_absent.Goals as goal

pub returns : goal.returns
returns c =
    two_ok c.add_passed_over.result (string_bytes c.args.text.now) (streams_text c.args.count) (passed_over_text c.args.passed_over.now) _ _
    c.in_ok-add_streams.ensures c.add_passed_over.ensures
