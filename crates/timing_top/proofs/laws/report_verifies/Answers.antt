use Rattle.timing_top.proofs.Verified.{answer-confirmed, answer-status, answer-told}
use Rattle.timing_top.proofs.laws.report_verifies.Goals as goal

pub returns-clause-told : goal.returns-clause-told
returns-clause-told c = answer-told

pub returns-clause-confirmed : goal.returns-clause-confirmed
returns-clause-confirmed c = answer-confirmed

pub returns-clause-status : goal.returns-clause-status
returns-clause-status c = answer-status
