use Rattle.timing_steps.proofs.Onces.{only-has}
use Rattle.timing_measure.specs.page.Pages.{page_query}
use Rattle.timing_measure.proofs.lemmas.page.Unique.{once-page}
use Rattle.timing_measure.proofs.page.laws.one_page_answer.Goals as goal

pub returns : goal.returns
returns c = λ job media texts a b h k. only-has (page_query job) media texts a b (once-page job) h k
