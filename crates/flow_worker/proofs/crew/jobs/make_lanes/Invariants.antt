use Rattle.std.proofs.Common.{map}
use Rattle.flow_worker.specs.crew.Jobs.{AreMade}
use Rattle.flow_worker.proofs.crew.jobs.make_lanes.Given as goal

abbrev pub invariant-loop-worker : goal.invariant-loop-worker
invariant-loop-worker l = AreMade l.files l.worker l.made.lanes.items l.made.workers.items (map (λ c. c.items) l.made.columns.items)
