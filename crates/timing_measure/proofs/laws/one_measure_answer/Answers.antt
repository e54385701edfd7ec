use Rattle.timing_steps.proofs.Onces.{only-has}
use Rattle.timing_measure.specs.Measures.{measure_query}
use Rattle.timing_measure.proofs.Unique.{once-measure}
use Rattle.timing_measure.proofs.laws.one_measure_answer.Goals as goal

pub returns : goal.returns
returns c = λ job media texts a b h k. only-has (measure_query job) media texts a b (once-measure job) h k
