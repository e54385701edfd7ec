use Rattle.timing_measure.proofs.Some.{some-measure-answer}
use Rattle.timing_measure.proofs.laws.some_measure_answer.Goals as goal

pub returns : goal.returns
returns c = some-measure-answer
