use Rattle.std.proofs.Common.{◌≡◌}
use Rattle.part_tests.proofs.rows.lanes.send_file.Given as goal

abbrev pub invariant-loop-number : goal.invariant-loop-number
invariant-loop-number g l = l.pass.lane ≡ l.lane
