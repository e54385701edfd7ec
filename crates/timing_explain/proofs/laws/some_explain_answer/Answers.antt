use Rattle.timing_explain.proofs.Some.{some-explain-answer}
use Rattle.timing_explain.proofs.laws.some_explain_answer.Goals as goal

pub returns : goal.returns
returns c = some-explain-answer
