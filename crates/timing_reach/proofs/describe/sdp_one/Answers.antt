use Rattle.timing_reach.proofs.Describings.{ends-described}
use Rattle.timing_reach.proofs.describe.sdp_one.Goals as goal

pub returns-clause-ends : goal.returns-clause-ends
returns-clause-ends g c = ends-described _ _ _ c.conclude.ensures.printed c.answer_sdp-outcome.ensures.answers
