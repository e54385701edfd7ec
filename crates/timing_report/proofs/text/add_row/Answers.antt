use Rattle.std.proofs.Common.{◌≡◌, ◌++◌, subst}
use Rattle.std.specs.Prelude.{string_bytes, codes}
use Rattle.timing_base.specs.Targets.{target_of}
use Rattle.timing_base.specs.declared.target.Target.{Target}
use Rattle.timing_report.proofs.Appends.{front_ok}
use Rattle.timing_report.specs.Text.{flow_head, text_of_lines}
use Rattle.timing_report.specs.Verdict.{verdict_text, lines_below}
use Rattle.timing_report.proofs.text.add_row.Goals as goal

pub returns : goal.returns
returns c =
    let P : Target → Type 0 = λ t. string_bytes c.add_flow_head.new.text ≡ string_bytes c.args.text.now ++ flow_head c.args.row.now.key t in
    front_ok c.add_flow_verdict.result (string_bytes c.args.text.now) (flow_head c.args.row.now.key (target_of c.args.media.now))
    (verdict_text c.args.media.now c.args.row.now.verdict) (codes "\n")
    (text_of_lines (lines_below c.args.media.now c.args.row.now.verdict)) _ _
    (subst P c.target.ensures c.in_ok-add_flow_head.ensures) c.add_flow_verdict.ensures
