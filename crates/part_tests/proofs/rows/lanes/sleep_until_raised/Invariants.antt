use Rattle.std.proofs.Common.{◌≡◌}
use Rattle.part_tests.proofs.rows.lanes.sleep_until_raised.Given as goal

abbrev pub invariant-loop : goal.invariant-loop
invariant-loop g l = (goal.iterator-loop g).can_next l.iterator' × (goal.iterator-loop g).is_finite l.iterator' × (l.taker.lane ≡ l.lane)
