use Rattle.std.proofs.Common.{◌≡◌, length, map, take, drop}
use Rattle.std.specs.Vec.Iter.{into_iter_items}
use Rattle.timing_base.specs.declared.key.FlowKey.{FlowKey}
use Rattle.timing_base.specs.declared.row.Row.{Row}
use Rattle.flow_worker.specs.crew.Gathering.{AreQueued}
use Rattle.flow_worker.proofs.crew.gather.gather.Given as goal

abbrev pub invariant-loop-key : goal.invariant-loop-key
invariant-loop-key l = record {
  count : length l.queues.items ≡ l.workers;
  some : (row_for : FlowKey → Row) × AreQueued l.book row_for l.media l.workers (drop l.key-index l.keys) (map (λ q. into_iter_items q) l.queues.items);
  going : (row_for : FlowKey → Row) → AreQueued l.book row_for l.media l.workers l.keys (map (λ q. into_iter_items q) l.initial.queues.items)
      → AreQueued l.book row_for l.media l.workers (drop l.key-index l.keys) (map (λ q. into_iter_items q) l.queues.items);
  rows : (row_for : FlowKey → Row) → AreQueued l.book row_for l.media l.workers l.keys (map (λ q. into_iter_items q) l.initial.queues.items)
      → l.rows.items ≡ map row_for (take l.key-index l.keys);
}
