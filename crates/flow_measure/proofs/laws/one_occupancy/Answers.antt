use Rattle.flow_measure.proofs.Passes.{occupancy-once, occupancy-some}
use Rattle.flow_measure.proofs.laws.one_occupancy.Goals as goal

pub returns-clause-some : goal.returns-clause-some
returns-clause-some c = occupancy-some

pub returns-clause-once : goal.returns-clause-once
returns-clause-once c = occupancy-once
