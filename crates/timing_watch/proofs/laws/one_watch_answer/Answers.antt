use Rattle.timing_steps.proofs.Onces.{only-has}
use Rattle.timing_watch.specs.Watches.{watch_query}
use Rattle.timing_watch.proofs.Unique.{once-watch}
use Rattle.timing_watch.proofs.laws.one_watch_answer.Goals as goal

pub returns : goal.returns
returns c = λ job media texts a b h k. only-has (watch_query job) media texts a b (once-watch job) h k
