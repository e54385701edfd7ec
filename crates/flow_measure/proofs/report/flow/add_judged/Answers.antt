use Rattle.std.proofs.Common.{◌≡◌, ℕ, List, ◌++◌, ap, subst}
use Rattle.std.specs.Prelude.{codes, string_bytes, map}
use Rattle.timing_base.specs.Targets.{target_text}
use Rattle.timing_base.specs.declared.target.Target.{Target}
use Rattle.timing_report.proofs.Appends.{two_ok}
use Rattle.flow_measure.specs.declared.numbers.MeasuredRun.{MeasuredRun}
use Rattle.flow_measure.specs.report.Json.{flow_end, flow_front, judged_text, runs_member, ssrc_member}
use Rattle.flow_measure.specs.report.Told.{flow_told, run_told}
use Rattle.flow_measure.proofs.lemmas.report.Joined.{added_ok}
use Rattle.flow_measure.proofs.report.flow.add_judged.Goals as goal

pub returns : goal.returns
unfolding judged_text
returns c =
    let media = c.args.media.now in
    let word = c.args.word.now in
    let f = flow_told c.args.flow.now in
    let end = flow_end media f word in
    let to : Target → List ℕ =
    λ t. ssrc_member f.ssrc ++ (codes "\"target\":\"" ++ (target_text t ++ (codes "\",\"verdict\":\"" ++ (word ++ codes "\"}")))) in
    let P : List MeasuredRun → Type 0 = λ rs. string_bytes c.add_runs_member.new.text
    ≡ string_bytes c.add_flow_front.new.text ++ runs_member media (map run_told rs) in
    two_ok c.write.result (string_bytes c.args.text.now) (flow_front f) (runs_member media f.runs ++ end) _ _ c.in_ok-add_flow_front.ensures
    (two_ok c.write.result _ (runs_member media f.runs) end _ _ (subst P c.as_slice.ensures c.in_ok-add_runs_member.ensures)
    (added_ok c.write.result _ _ _ end c.write.ensures.bytes (ap to c.target-target.ensures)))
