use Rattle.std.proofs.Common.{◌≡◌, ◌+◌, ◌++◌, length, map}
use Rattle.flow_worker.specs.crew.Jobs.{numbers}
use Rattle.flow_worker.proofs.crew.jobs.make_intakes.Given as goal

abbrev pub invariant-loop-source : goal.invariant-loop-source
invariant-loop-source g l = record {
  whole : l.fn.sources.items ≡ l.yielded ++ l.source-iterator.rest.items;
  file_is : l.file ≡ length l.yielded;
  file_numbers : map (λ j. j.file) l.jobs.items ≡ numbers l.file;
  file_sources : map (λ j. j.source) l.jobs.items ≡ l.yielded;
  columns_whole : map (λ c. c.items) l.fn.columns.items ≡ map (λ j. j.passes.items) l.jobs.items ++ map (λ c. c.items) l.columns.rest.items;
  count : length l.fn.columns.items ≡ l.file + length l.columns.rest.items;
}
