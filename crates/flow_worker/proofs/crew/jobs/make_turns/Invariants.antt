use Rattle.std.proofs.Common.{◌≡◌, length}
use Rattle.flow_worker.proofs.crew.jobs.make_turns.Given as goal

abbrev pub invariant-loop : goal.invariant-loop
invariant-loop l = length l.turns.items ≡ l.counter
