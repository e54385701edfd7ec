use Rattle.timing_top.proofs.lemmas.verify.Unique.{only-finding, some-finding}
use Rattle.timing_top.proofs.verify.laws.one_finding.Goals as goal

pub returns-clause-some : goal.returns-clause-some
returns-clause-some c = some-finding

pub returns-clause-once : goal.returns-clause-once
returns-clause-once c = only-finding
