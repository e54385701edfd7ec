use Rattle.timing_steps.proofs.Onces.{only-has, some-has}
use Rattle.timing_reach.specs.Shaped.{shape_query}
use Rattle.timing_reach.proofs.SomeShape.{once-shape, some-shape}
use Rattle.timing_reach.proofs.laws.shapes.one_shape_answer.Goals as goal

pub returns-clause-some : goal.returns-clause-some
returns-clause-some c = λ job media texts are unsettled. some-has (shape_query job) media texts are unsettled (some-shape job texts)

pub returns-clause-once : goal.returns-clause-once
returns-clause-once c = λ job media texts a b h k. only-has (shape_query job) media texts a b (once-shape job) h k
