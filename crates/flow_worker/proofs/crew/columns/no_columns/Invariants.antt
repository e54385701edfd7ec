use Rattle.std.proofs.Common.{◌≡◌, [], map, replicate}
use Rattle.flow_worker.proofs.crew.columns.no_columns.Given as goal

abbrev pub invariant-loop : goal.invariant-loop
invariant-loop l = map (λ c. c.items) l.columns.items ≡ replicate l.counter []
