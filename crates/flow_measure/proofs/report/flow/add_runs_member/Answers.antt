use Rattle.std.proofs.Common.{◌≡◌, ◌≤◌, ◌++◌, ◌∙◌, arith, false, length, refl, sym}
use Rattle.std.specs.Prelude.{codes, map, nat_lt, string_bytes}
use Rattle.flow_measure.specs.report.Json.{items_text, run_text}
use Rattle.flow_measure.specs.report.Told.{run_told}
use Rattle.flow_measure.proofs.lemmas.report.Joined.{added_ok, listed_ok, some_runs, whole_list}
use Rattle.flow_measure.proofs.report.flow.add_runs_member.Goals as goal

pub returns : goal.returns
returns c =
    let media = c.args.media.now in
    let runs = c.args.runs.now in
    let old = string_bytes c.args.text.now in
    let text = string_bytes c.loop-index.text in
    let items = items_text (run_text media) false (map run_told runs) in
    let past : length runs ≤ c.loop-index.index = omega arith in
    let all : text ≡ (old ++ codes "\"runs\":[") ++ items =
    whole_list (λ rs. items_text (run_text media) (nat_lt 0 c.loop-index.index) (map run_told rs)) text _ items c.loop-index.index runs refl past
    c.loop-index.invariant in
    added_ok c.write.result old (string_bytes c.write.new.self) _ _ (listed_ok c.write.result old items _ _ _ refl all c.write.ensures.bytes)
    (some_runs media runs (sym c.is_empty.ensures ∙ c.if-is_empty.false))
