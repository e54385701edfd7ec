use Rattle.timing_steps.proofs.Onces.{only-has}
use Rattle.timing_measure.specs.series.Series.{series_query}
use Rattle.timing_measure.proofs.lemmas.series.Unique.{once-series}
use Rattle.timing_measure.proofs.series.laws.one_series_answer.Goals as goal

pub returns : goal.returns
returns c = λ job media texts a b h k. only-has (series_query job) media texts a b (once-series job) h k
