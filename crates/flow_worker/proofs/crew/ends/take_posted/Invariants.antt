use Rattle.std.proofs.Common.{◌≡◌, ◌++◌, Some, map}
use Rattle.std.specs.Vec.Iter.{into_iter_items}
use Rattle.flow_worker.specs.crew.Ends.{receipts_in}
use Rattle.flow_worker.proofs.crew.ends.take_posted.Given as goal

abbrev pub invariant-loop-each : goal.invariant-loop-each
invariant-loop-each l = record {
  whole : l.fn.posted.items ≡ l.yielded ++ l.each-iterator.rest.items;
  taken : map receipts_in l.yielded ≡ map (λ q. Some (into_iter_items q)) l.queues.items;
}
