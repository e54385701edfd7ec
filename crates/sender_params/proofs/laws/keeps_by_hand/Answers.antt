use Rattle.std.proofs.Common.{pos, lit≤, arith, rules}
use Rattle.std.proofs.lemmas.Int.{ints}
use Rattle.fraction128.specs.Fractions.{scaled}
use Rattle.sender_params.proofs.Buffers.{held-at_once}
use Rattle.sender_params.proofs.laws.keeps_by_hand.Goals as goal

pub returns-clause-four : goal.returns-clause-four
returns-clause-four c = record {
  bucket = search rules;
  buffer = λ t _. omega (arith, ints, held-at_once 4 t);
}

-- packets 0 to 4
pub returns-clause-five : goal.returns-clause-five
returns-clause-five c = λ keeps. omega (arith, keeps.bucket 0 4 (lit≤ tt) (lit≤ tt))

-- at the instant of read 1
pub returns-clause-linear : goal.returns-clause-linear
returns-clause-linear c = λ keeps. omega (arith, ints, (keeps.buffer (scaled (pos 14400000000015520000) (1, 9)) (lit≤ tt)).0)
