use Rattle.std.proofs.Common.{◌≡◌, length}
use Rattle.part_tests.proofs.rows.lanes.batch.Given as goal

abbrev pub invariant-loop-place : goal.invariant-loop-place
invariant-loop-place l = length l.packets.items ≡ l.place
