use Rattle.timing_steps.proofs.Onces.{only-has}
use Rattle.timing_top.specs.verify.Asked.{verify_query}
use Rattle.timing_top.proofs.lemmas.verify.Unique.{once-verify, some-verified}
use Rattle.timing_top.proofs.verify.laws.one_verified.Goals as goal

pub returns-clause-some : goal.returns-clause-some
returns-clause-some c = some-verified

pub returns-clause-once : goal.returns-clause-once
returns-clause-once c = λ job media texts a b h k. only-has (verify_query job) media texts a b (once-verify job) h k
