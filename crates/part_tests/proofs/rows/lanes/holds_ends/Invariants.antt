use Rattle.std.proofs.Common.{◌≡◌}
use Rattle.part_tests.proofs.rows.lanes.holds_ends.Given as goal

abbrev pub invariant-loop-at : goal.invariant-loop-at
invariant-loop-at g l = l.taker.lane ≡ l.lane
