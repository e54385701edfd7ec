use Rattle.timing_reach.proofs.Describings.{once-description, some-description}
use Rattle.timing_reach.proofs.laws.one_sdp_answer.Goals as goal

pub returns-clause-some : goal.returns-clause-some
returns-clause-some c = some-description

pub returns-clause-once : goal.returns-clause-once
returns-clause-once c = once-description
