use Rattle.timing_top.proofs.lemmas.verify.Unique.{only-reported, some-reported}
use Rattle.timing_top.proofs.verify.laws.one_reported.Goals as goal

pub returns-clause-some : goal.returns-clause-some
returns-clause-some c = some-reported

pub returns-clause-once : goal.returns-clause-once
returns-clause-once c = only-reported
