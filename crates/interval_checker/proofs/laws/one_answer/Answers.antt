use Rattle.interval_checker.proofs.Answering.{says-one, says-same}
use Rattle.interval_checker.proofs.laws.one_answer.Goals as goal

pub returns-clause-one : goal.returns-clause-one
returns-clause-one c = says-one

pub returns-clause-no_other : goal.returns-clause-no_other
returns-clause-no_other c = says-same
