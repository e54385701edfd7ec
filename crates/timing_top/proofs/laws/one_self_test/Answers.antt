use Rattle.timing_top.proofs.SelfTests.{only-self_test, some-self_test}
use Rattle.timing_top.proofs.laws.one_self_test.Goals as goal

pub returns-clause-some : goal.returns-clause-some
returns-clause-some c = some-self_test

pub returns-clause-once : goal.returns-clause-once
returns-clause-once c = only-self_test
