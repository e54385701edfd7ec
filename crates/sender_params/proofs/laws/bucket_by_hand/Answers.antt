use Rattle.std.proofs.Common.{lit≤, arith}
use Rattle.sender_params.proofs.laws.bucket_by_hand.Goals as goal

-- packets 1 to 5
pub returns-clause-later : goal.returns-clause-later
returns-clause-later c = λ keeps. omega (arith, keeps 1 5 (lit≤ tt) (lit≤ tt))
