use Rattle.fail_interval.proofs.Confirmed.{names-first}
use Rattle.fail_interval.proofs.laws.verdict_names_first.Goals as goal

pub returns : goal.returns
returns c = names-first
