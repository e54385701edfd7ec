use Rattle.std.proofs.Common.{length, ◌-◌}
use Rattle.path_skew.specs.Search.{IsAt}
use Rattle.path_skew.proofs.directory.Directory.find.Given as goal

abbrev pub invariant-loop-place : goal.invariant-loop-place
invariant-loop-place l = IsAt l.self.entries.items l.page l.at.place l.at.digits

abbrev pub decreases-loop-place : goal.decreases-loop-place
decreases-loop-place l = length l.self.entries.items - l.at.place
