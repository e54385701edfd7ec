use Rattle.read_schedule.proofs.Rising.{due-once, due-some}
use Rattle.read_schedule.proofs.laws.one_count.Goals as goal

pub returns-clause-some : goal.returns-clause-some
returns-clause-some c = due-some

pub returns-clause-once : goal.returns-clause-once
returns-clause-once c = due-once
