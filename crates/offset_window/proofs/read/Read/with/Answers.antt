use Rattle.std.proofs.Common.{arith}
use Rattle.offset_window.proofs.Steps.{parts_at-small, offset-small}
use Rattle.offset_window.proofs.read.Read.with.Goals as goal

pub overflow_add-result : goal.overflow_add-result
overflow_add-result c =
    let s = c.args.self.now in
    rw (c.from.ensures, c.from-2.ensures)
    (omega (arith, s.at_is, parts_at-small s.grid s.number (omega arith), offset-small c.args.micros s.grid.den (omega arith) s.grid.den_small))

pub returns-clause-small : goal.returns-clause-small
returns-clause-small c =
    let s = c.args.self.now in
    rw (c.from.ensures, c.from-2.ensures)
    (omega (arith, s.at_is, parts_at-small s.grid s.number (omega arith), offset-small c.args.micros s.grid.den (omega arith) s.grid.den_small))
