use Rattle.std.proofs.Common.{take}
use Rattle.flow_watch.specs.making.Lines.{AddsEach}
use Rattle.flow_watch.proofs.lines.WatchLines.add_each.Given as goal

abbrev pub invariant-loop-group : goal.invariant-loop-group
invariant-loop-group l = AddsEach (take l.group-index l.groups) l.fn.self l.self
