use Rattle.std.proofs.Common.{◌≡◌, drop}
use Rattle.flow_page.specs.Peaks.{peak_from}
use Rattle.flow_page.proofs.peaks.peak_from.Given as goal

abbrev pub invariant-loop-at : goal.invariant-loop-at
invariant-loop-at l = peak_from l.most l.at (drop l.at l.columns) ≡ peak_from l.most 0 l.columns
