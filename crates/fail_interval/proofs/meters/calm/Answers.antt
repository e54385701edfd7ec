use Rattle.std.proofs.Common.{arith}
use Rattle.fail_interval.proofs.meters.calm.Goals as goal

pub returns-then-breaks-clause-due : goal.returns-then-breaks-clause-due
returns-then-breaks-clause-due c = λ m n anchor gapped at left stood few.
    c.after.ensures.from m n anchor gapped at left stood (omega (arith, few, c.after.ensures.lasts))

pub returns-else-breaks-clause-due : goal.returns-else-breaks-clause-due
returns-else-breaks-clause-due c = λ m n anchor gapped at left stood few.
    c.between.ensures.from m n anchor gapped at left stood (omega (arith, few, c.between.ensures.lasts))

pub returns-else-breaks-clause-ahead : goal.returns-else-breaks-clause-ahead
returns-else-breaks-clause-ahead c = λ m n anchor gapped at left stood few _. c.between.ensures.up_to m n anchor gapped at left stood few
