use Rattle.timing_top.proofs.ReadBack.{report-status, report-told}
use Rattle.timing_top.proofs.laws.json_verifies.Goals as goal

pub returns-clause-told : goal.returns-clause-told
returns-clause-told c = report-told

pub returns-clause-status : goal.returns-clause-status
returns-clause-status c = report-status
