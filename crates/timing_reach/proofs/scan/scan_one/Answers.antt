use Rattle.timing_steps.proofs.Endings.{ends-by}
use Rattle.timing_reach.proofs.scan.scan_one.Goals as goal

pub returns-clause-ends : goal.returns-clause-ends
returns-clause-ends g c = ends-by _ _ _ _ c.conclude.ensures.printed c.answer_scan-outcome.ensures.answers
