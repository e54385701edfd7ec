use Rattle.std.proofs.Common.{◌≡◌}
use Rattle.timing_base.specs.Choices.{row_from}
use Rattle.timing_top.proofs.Numbering.{mapped_to}
use Rattle.timing_top.proofs.check.count_from.Given as goal

abbrev pub invariant-loop-row : goal.invariant-loop-row
invariant-loop-row l = l.rows ≡ mapped_to (row_from l.first) l.row-index l.fn.rows
