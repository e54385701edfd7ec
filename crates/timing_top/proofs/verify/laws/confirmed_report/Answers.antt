use Rattle.timing_top.proofs.lemmas.verify.Unique.{confirmed-lines, confirmed-status}
use Rattle.timing_top.proofs.verify.laws.confirmed_report.Goals as goal

pub returns-clause-lines : goal.returns-clause-lines
returns-clause-lines c = confirmed-lines

pub returns-clause-status : goal.returns-clause-status
returns-clause-status c = confirmed-status
