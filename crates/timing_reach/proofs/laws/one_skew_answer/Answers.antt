use Rattle.timing_steps.proofs.Onces.{only-has, some-has}
use Rattle.timing_reach.specs.Skewed.{skew_query}
use Rattle.timing_reach.proofs.Skewing.{once-skew, some-skew}
use Rattle.timing_reach.proofs.laws.one_skew_answer.Goals as goal

pub returns-clause-some : goal.returns-clause-some
returns-clause-some c = λ job media texts are unsettled. some-has (skew_query job) media texts are unsettled (some-skew job texts)

pub returns-clause-once : goal.returns-clause-once
returns-clause-once c = λ job media texts x y h k. only-has (skew_query job) media texts x y (once-skew job) h k
