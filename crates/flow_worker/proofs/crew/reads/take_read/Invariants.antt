use Rattle.std.proofs.Common.{◌≡◌, ◌++◌, map}
use Rattle.flow_worker.proofs.crew.reads.take_read.Given as goal

abbrev pub invariant-loop-done : goal.invariant-loop-done
invariant-loop-done g l = record {
  whole : l.fn.dones.items ≡ l.yielded ++ l.done-iterator.rest.items;
  sources : l.read.sources.items ≡ map (λ d. d.source) l.yielded;
  notes : l.read.notes.items ≡ map (λ d. d.note) l.yielded;
  rows : l.read.rows.items ≡ map (λ d. d.passes) l.yielded;
}
