use Rattle.timing_steps.proofs.Onces.{only-has}
use Rattle.timing_explain.specs.Explained.{explain_query}
use Rattle.timing_explain.proofs.Unique.{once-explain}
use Rattle.timing_explain.proofs.laws.one_explain_answer.Goals as goal

pub returns : goal.returns
returns c = λ job media texts a b h k. only-has (explain_query job) media texts a b (once-explain job) h k
