use Rattle.std.proofs.Common.{slice_index}
use Rattle.flow_shaper.specs.Plan.{models_of}
use Rattle.flow_shaper.proofs.Exists.{least-once, shaped-some}
use Rattle.flow_shaper.proofs.laws.least_plan.Goals as goal

pub returns-clause-some : goal.returns-clause-some
returns-clause-some c = λ m n kind arrivals is some.
    let found = shaped-some m n kind arrivals is some in
    (found.0, found.1.0)

pub returns-clause-once : goal.returns-clause-once
returns-clause-once c = λ m n kind arrivals a b i first second few.
    least-once (models_of m n kind (slice_index arrivals 0)) arrivals a b i first second few
