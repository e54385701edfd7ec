use Rattle.std.proofs.Common.{◌≡◌, [], length}
use Rattle.flow_worker.specs.Judging.{EachFrom}
use Rattle.flow_worker.specs.Standing.{IsWaiting}
use Rattle.flow_worker.proofs.joined_files.Joined.new.Given as goal

abbrev pub invariant-loop : goal.invariant-loop
invariant-loop l = record {
  count : length l.all.items ≡ l.counter;
  each : EachFrom (IsWaiting 0 []) 0 l.all.items;
}
