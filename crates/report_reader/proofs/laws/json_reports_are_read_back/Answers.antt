use Rattle.std.proofs.Common.{sym, ◌∙◌}
use Rattle.report_reader.proofs.Json.{json_back}
use Rattle.report_reader.proofs.Report.{report_back}
use Rattle.report_reader.proofs.laws.json_reports_are_read_back.Goals as goal

pub returns-clause-json : goal.returns-clause-json
returns-clause-json c = json_back

pub returns-clause-both : goal.returns-clause-both
returns-clause-both c = λ job session notes rows are utf8. json_back job session notes rows are utf8 ∙ sym (report_back job session notes rows are)
