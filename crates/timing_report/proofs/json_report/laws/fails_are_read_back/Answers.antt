use Rattle.timing_report.proofs.lemmas.json_report.Back.{read-back}
use Rattle.timing_report.proofs.json_report.laws.fails_are_read_back.Goals as goal

pub returns : goal.returns
returns c = read-back
