use Rattle.timing_measure.proofs.lemmas.page.Some.{some-page-answer}
use Rattle.timing_measure.proofs.page.laws.some_page_answer.Goals as goal

pub returns : goal.returns
returns c = some-page-answer
