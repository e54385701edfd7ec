use Rattle.std.proofs.Common.{arith}
use Rattle.interval_checker.proofs.laws.bucket_by_hand.Goals as goal

-- packets 0 to 3 are four
pub returns-clause-four : goal.returns-clause-four
returns-clause-four c = λ confirms. omega (arith, confirms.breaks.1)

pub returns-clause-limit : goal.returns-clause-limit
returns-clause-limit c = λ confirms. omega (arith, confirms.breaks.0)
