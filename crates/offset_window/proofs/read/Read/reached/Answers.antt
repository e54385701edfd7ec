use Rattle.std.proofs.Common.{arith}
use Rattle.offset_window.proofs.Steps.{reached-is}
use Rattle.offset_window.proofs.read.Read.reached.Goals as goal

pub returns-clause-value : goal.returns-clause-value
returns-clause-value c =
    rw (c.from-3.ensures) (reached-is c.args.micros c.args.at c.args.self.now.grid.den c.from-2.result (omega arith) (omega arith))
