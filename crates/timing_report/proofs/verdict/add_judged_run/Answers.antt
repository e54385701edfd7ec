use Rattle.std.specs.Prelude.{string_bytes, codes}
use Rattle.timing_report.proofs.Appends.{line_ok}
use Rattle.timing_report.specs.Text.{text_of_lines}
use Rattle.timing_report.specs.Verdict.{judged_text, type_lines}
use Rattle.timing_report.proofs.verdict.add_judged_run.Goals as goal

pub returns : goal.returns
returns c = line_ok c.add_types.result (string_bytes c.args.text.now) (judged_text c.args.media.now c.args.judged.now) (codes "\n")
    (text_of_lines (type_lines (codes "    ") c.args.media.now c.args.judged.now)) _ _ _
    c.in_ok-add_judged.ensures c.in_ok-push_str.ensures.bytes c.add_types.ensures
