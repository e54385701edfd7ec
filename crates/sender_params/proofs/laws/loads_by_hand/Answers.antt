use Rattle.std.proofs.Common.{lit≤, arith}
use Rattle.sender_params.proofs.laws.loads_by_hand.Goals as goal

-- packets 1 and 2
pub returns-clause-falls : goal.returns-clause-falls
returns-clause-falls c = λ never. omega (arith, never 1 2 (lit≤ tt) (lit≤ tt))
