use Rattle.timing_watch.proofs.Some.{some-watch-answer}
use Rattle.timing_watch.proofs.laws.some_watch_answer.Goals as goal

pub returns : goal.returns
returns c = some-watch-answer
