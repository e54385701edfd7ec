use Rattle.std.proofs.Common.{◌≡◌, ◌++◌, length, map}
use Rattle.flow_worker.specs.crew.Columns.{dealt}
use Rattle.flow_worker.proofs.crew.columns.deal.Given as goal

abbrev pub invariant-loop-pass : goal.invariant-loop-pass
invariant-loop-pass l = record {
  whole : l.fn.row.items ≡ l.yielded ++ l.pass-iterator.rest.items;
  place_is : l.place ≡ length l.yielded;
  dealt_out : map (λ c. c.items) l.columns.items ≡ dealt l.yielded (map (λ c. c.items) l.fn.columns.items);
}
