use Rattle.report_reader.proofs.Rows.{same_json, same_json_rows}
use Rattle.report_reader.proofs.laws.one_json_has_one_result.Goals as goal

pub returns-clause-told : goal.returns-clause-told
returns-clause-told c = same_json

pub returns-clause-rows : goal.returns-clause-rows
returns-clause-rows c = same_json_rows
