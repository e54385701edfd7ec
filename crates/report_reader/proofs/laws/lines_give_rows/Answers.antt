use Rattle.report_reader.proofs.Rows.{rows_are, rows_back}
use Rattle.report_reader.proofs.laws.lines_give_rows.Goals as goal

pub returns-clause-told : goal.returns-clause-told
returns-clause-told c = λ job session notes rows fits. rows_are session rows fits

pub returns-clause-whole : goal.returns-clause-whole
returns-clause-whole c = λ job session notes rows fits all. rows_back session rows fits all
