use Rattle.std.proofs.Common.{[]}
use Rattle.timing_watch.proofs.Lines.{lines-split}
use Rattle.timing_watch.proofs.laws.lines_only_grow.Goals as goal

pub returns : goal.returns
returns c = λ job first media items more text h. lines-split job first media [] items more text h
