use Rattle.std.proofs.Common.{◌≡◌, ◌++◌, ◌∙◌, ℕ, List, Bool, true, false, ap, codes, string_bytes, rules}
use Rattle.std.specs.Prelude.{if◌then◌else◌}
use Rattle.serde_json.specs.Written.{compact_text}
use Rattle.timing_report.specs.Text.{report_text}
use Rattle.timing_report.specs.json_report.Json.{report_data}
use Rattle.timing_watch.specs.Watches.{check_of}
use Rattle.timing_watch.proofs.Taking.{if-ok}
use Rattle.timing_watch.proofs.report.end_of.Goals as goal

-- the object of the report, in that of the end
object-end : (json : Bool) (printed object other text : List ℕ) → json ≡ true → printed ≡ object
    → text ≡ codes "{\"event\":\"end\",\"report\":" ++ (printed ++ codes "}\n")
    → text ≡ (if json then codes "{\"event\":\"end\",\"report\":" ++ (object ++ codes "}\n") else other)
object-end true printed object other text e same is = is ∙ ap (λ o. codes "{\"event\":\"end\",\"report\":" ++ (o ++ codes "}\n")) same
object-end false printed object other text e same is = cc

pub returns-then-job : goal.returns-then-job
returns-then-job c =
    let job = c.args.job.now in
    let session = c.args.session.now in
    let notes = c.args.notes.now in
    let rows = c.args.rows.now in
    let object = compact_text (report_data (check_of job) session notes rows) in
    let line : string_bytes c.in_ok-report.report ≡ object ++ codes "\n" = search (rules, c.in_ok-check.ensures) in
    let text : c.without_end-object.result.now ≡ object = c.without_end-object.ensures object (c.as_str.ensures.value ∙ line) in
    let json : job.json ≡ true = search rules in
    if-ok c.format.result
    (λ s is. object-end job.json c.without_end-object.result.now object (codes "end\n" ++ report_text (check_of job) session notes rows) (string_bytes s)
    json text is) c.format.ensures.ok
