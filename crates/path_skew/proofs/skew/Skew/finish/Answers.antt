use Rattle.std.proofs.Common.{arith}
use Rattle.path_skew.proofs.Stood.{row-is}
use Rattle.path_skew.proofs.skew.Skew.finish.Goals as goal

-- what is kept is the row
pub returns : goal.returns
returns c = λ f g stood. row-is c.args.self f g _ _ stood (grind (arith, c.saturating_sub.ensures)) (grind (arith, c.saturating_sub-2.ensures))
