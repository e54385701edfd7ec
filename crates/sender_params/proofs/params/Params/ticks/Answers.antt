use Rattle.std.proofs.Common.{arith}
use Rattle.sender_params.proofs.Ticks.{quotient-small}
use Rattle.sender_params.proofs.params.Params.ticks.Goals as goal

pub returns-clause-small : goal.returns-clause-small
returns-clause-small c = rw c.floor_of.ensures (quotient-small c.from.result c.from-2.result c.from-3.result (omega arith) (omega arith))
