use Rattle.std.proofs.Common.{map}
use Rattle.flow_worker.specs.crew.Closing.{AreClosed, CanClose}
use Rattle.flow_worker.proofs.crew.close.close_all.Given as goal

abbrev pub invariant-loop-lane : goal.invariant-loop-lane
invariant-loop-lane g l = record {
  ready : CanClose l.lane-iterator.rest.items (map (λ c. c.items) l.senders.rest.items) l.takers.rest.items;
  then : AreClosed (map (λ c. c.items) l.senders.rest.items) l.takers.rest.items → AreClosed (map (λ c. c.items) l.fn.senders.items) l.fn.takers.items;
}
