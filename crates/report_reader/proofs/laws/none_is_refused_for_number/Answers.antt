use Rattle.report_reader.proofs.Rows.{none_for_number}
use Rattle.report_reader.proofs.laws.none_is_refused_for_number.Goals as goal

pub returns : goal.returns
returns c = λ packets pt options rec fault e. none_for_number packets pt options rec fault e
