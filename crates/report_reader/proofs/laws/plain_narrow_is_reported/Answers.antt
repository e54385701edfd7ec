use Rattle.report_reader.proofs.Plain.{plain_reported}
use Rattle.report_reader.proofs.laws.plain_narrow_is_reported.Goals as goal

pub returns : goal.returns
returns c = plain_reported
