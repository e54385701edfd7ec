use Rattle.report_reader.proofs.Rows.{same_rows, same_told}
use Rattle.report_reader.proofs.laws.one_text_has_one_result.Goals as goal

pub returns-clause-told : goal.returns-clause-told
returns-clause-told c = same_told

pub returns-clause-rows : goal.returns-clause-rows
returns-clause-rows c = same_rows
