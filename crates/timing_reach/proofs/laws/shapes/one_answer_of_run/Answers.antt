use Rattle.timing_reach.proofs.OneShape.{shape-once}
use Rattle.timing_reach.proofs.SomeShape.{shape-some}
use Rattle.timing_reach.proofs.laws.shapes.one_answer_of_run.Goals as goal

pub returns-clause-some : goal.returns-clause-some
returns-clause-some c = shape-some

pub returns-clause-once : goal.returns-clause-once
returns-clause-once c = shape-once
