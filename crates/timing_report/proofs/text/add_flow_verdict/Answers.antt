use Rattle.std.specs.Prelude.{string_bytes, codes}
use Rattle.timing_report.proofs.Appends.{line_ok}
use Rattle.timing_report.specs.Text.{text_of_lines}
use Rattle.timing_report.specs.Verdict.{verdict_text, lines_below}
use Rattle.timing_report.proofs.text.add_flow_verdict.Goals as goal

pub returns : goal.returns
returns c = line_ok c.add_lines_below.result (string_bytes c.args.text.now) (verdict_text c.args.media.now c.args.verdict.now) (codes "\n")
    (text_of_lines (lines_below c.args.media.now c.args.verdict.now)) _ _ _
    c.in_ok-add_verdict.ensures c.in_ok-push_str.ensures.bytes c.add_lines_below.ensures
