use Rattle.std.proofs.Common.{◌≡◌, ℕ, [], length}
use Rattle.std.specs.Prelude.{slice_index_or}
use Rattle.flow_worker.proofs.outboxes.open_batches.Given as goal

abbrev pub invariant-lanes : goal.invariant-lanes
invariant-lanes l = record {
  long : length l.batches.items ≡ l.counter;
  none : (w : ℕ) → slice_index_or l.batches.items w [] ≡ [];
}
