use Rattle.std.specs.Prelude.{string_bytes, codes}
use Rattle.timing_report.proofs.Appends.{front_ok}
use Rattle.timing_report.specs.Text.{text_of_lines}
use Rattle.timing_report.specs.Verdict.{run_head, run_verdict_text, lines_below_run}
use Rattle.timing_report.proofs.verdict.add_run.Goals as goal

pub returns : goal.returns
returns c = front_ok c.add_run_verdict.result (string_bytes c.args.text.now) (run_head c.args.index c.args.run.now)
    (run_verdict_text c.args.media.now c.args.run.now.verdict) (codes "\n")
    (text_of_lines (lines_below_run c.args.media.now c.args.run.now.verdict)) _ _
    c.in_ok-add_run_head.ensures c.add_run_verdict.ensures
