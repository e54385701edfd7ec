use Rattle.std.proofs.Common.{pos, lit≤, arith}
use Rattle.std.proofs.lemmas.Int.{ints}
use Rattle.fraction128.specs.Fractions.{scaled, whole}
use Rattle.sender_params.proofs.Buffers.{held-at_once}
use Rattle.sender_params.proofs.laws.buffer_by_hand.Goals as goal

pub returns-clause-eight : goal.returns-clause-eight
returns-clause-eight c = λ t _. held-at_once 8 t

-- at the instant at which they come
pub returns-clause-nine : goal.returns-clause-nine
returns-clause-nine c = λ keeps. omega (arith, ints, (keeps (whole 1600000000000764000) (lit≤ tt)).1)

-- at the instant of read 1
pub returns-clause-late : goal.returns-clause-late
returns-clause-late c = λ keeps. omega (arith, ints, (keeps (scaled (pos 14400000000015520000) (1, 9)) (lit≤ tt)).0)
