use Rattle.report_reader.proofs.Report.{report_back}
use Rattle.report_reader.proofs.laws.reports_are_read_back.Goals as goal

pub returns : goal.returns
returns c = report_back
