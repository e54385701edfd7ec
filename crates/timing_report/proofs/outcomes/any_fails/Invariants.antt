use Rattle.std.proofs.Common.{◌≡◌, take, false}
use Rattle.std.specs.List.{list_any}
use Rattle.timing_report.specs.Outcomes.{fails}
use Rattle.timing_report.proofs.outcomes.any_fails.Given as goal

abbrev pub invariant-loop-row : goal.invariant-loop-row
invariant-loop-row l = list_any (fails l.session) (take l.row-index l.rows) ≡ false
