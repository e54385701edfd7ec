use Rattle.timing_words.proofs.Limits.{request-within}
use Rattle.timing_words.proofs.laws.jobs_are_within_limits.Goals as goal

pub returns : goal.returns
returns c = request-within
