use Rattle.std.proofs.Common.{◌≡◌, drop}
use Rattle.flow_page.specs.chart.Charts.{most_of}
use Rattle.flow_page.proofs.chart.chart.most_of.Given as goal

abbrev pub invariant-loop-bar : goal.invariant-loop-bar
invariant-loop-bar l = most_of l.most (drop l.bar-index l.bars) ≡ most_of 0 l.bars
