use Rattle.std.proofs.Common.{rules, ◌∙◌}
use Rattle.timing_top.proofs.lemmas.verify.Reports.{no-report-front, report-front}
use Rattle.timing_top.proofs.verify.report.fetch_report.Goals as goal

pub returns-in-Ok-read_json-clause-told : goal.returns-in-Ok-read_json-clause-told
returns-in-Ok-read_json-clause-told g c = λ s told.
    report-front s c.deref.result.now c.in-Ok-read_json.claims.items (c.deref.ensures.value ∙ c.in-Ok.ensures.text s told) c.in-Ok-read_json.ensures.told

pub returns-in-Err-Refused-clause-told : goal.returns-in-Err-Refused-clause-told
returns-in-Err-Refused-clause-told g c = λ s told.
    no-report-front s c.deref.result.now (c.deref.ensures.value ∙ c.in-Ok.ensures.text s told) (c.read_json.ensures.refused (search rules))
