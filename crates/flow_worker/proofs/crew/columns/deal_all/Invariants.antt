use Rattle.std.proofs.Common.{◌≡◌, ◌++◌, [], length, map, replicate}
use Rattle.std.specs.Prelude.{All}
use Rattle.flow_worker.specs.crew.Columns.{dealt_all}
use Rattle.flow_worker.proofs.crew.columns.deal_all.Given as goal

abbrev pub invariant-loop-row : goal.invariant-loop-row
invariant-loop-row l = record {
  whole : l.fn.rows.items ≡ l.yielded ++ l.row-iterator.rest.items;
  fit : All (λ row. length row.items ≡ l.count) l.row-iterator.rest.items;
  long : length l.columns.items ≡ l.count;
  dealt_out : map (λ c. c.items) l.columns.items ≡ dealt_all (map (λ c. c.items) l.yielded) (replicate l.count []);
}
