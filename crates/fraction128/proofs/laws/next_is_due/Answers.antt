use Rattle.fraction128.proofs.Due as due
use Rattle.fraction128.proofs.laws.next_is_due.Goals as goal

pub returns : goal.returns
returns c = due.next_is_due
