use Rattle.std.proofs.Common.{◌≡◌, ◌++◌, drop}
use Rattle.flow_page.specs.Often.{class_bars}
use Rattle.flow_page.proofs.often.class_bars.Given as goal

abbrev pub invariant-loop-count : goal.invariant-loop-count
invariant-loop-count l = l.bars.items ++ class_bars l.first (drop l.count-index l.counts) ≡ class_bars 0 l.counts
