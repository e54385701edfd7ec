use Rattle.std.proofs.Common.{◌≡◌, ◌++◌, map}
use Rattle.flow_worker.proofs.crew.ends.take_worked.Given as goal

abbrev pub invariant-loop-done : goal.invariant-loop-done
invariant-loop-done l = record {
  whole : l.fn.dones.items ≡ l.yielded ++ l.done-iterator.rest.items;
  takers : l.worked.takers.items ≡ map (λ d. d.pass) l.yielded;
  posted : l.worked.posted.items ≡ map (λ d. d.receipts) l.yielded;
}
