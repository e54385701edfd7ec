use Rattle.std.proofs.Common.{◌≡◌, ◌++◌, drop}
use Rattle.flow_page.specs.Often.{width_bars}
use Rattle.flow_page.proofs.often.add_width_bars.Given as goal

abbrev pub invariant-loop-k : goal.invariant-loop-k
invariant-loop-k l =
    l.bars.items ++ width_bars l.width l.k (drop l.k l.counts) ≡ l.fn.bars.items ++ width_bars l.width 0 l.counts
