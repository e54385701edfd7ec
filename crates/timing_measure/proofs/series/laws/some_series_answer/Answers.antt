use Rattle.timing_measure.proofs.lemmas.series.Some.{some-series-answer}
use Rattle.timing_measure.proofs.series.laws.some_series_answer.Goals as goal

pub returns : goal.returns
returns c = some-series-answer
