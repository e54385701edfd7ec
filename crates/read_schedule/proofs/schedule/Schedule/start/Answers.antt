use Rattle.std.proofs.Common.{◌^◌, arith}
use Rattle.read_schedule.proofs.Rounding.{le_of_parts}
use Rattle.read_schedule.proofs.schedule.Schedule.start.Goals as goal

pub invariant_of-result-clause-turn_small : goal.invariant_of-result-clause-turn_small
invariant_of-result-clause-turn_small c =
    le_of_parts c.spread-2.result.whole (2 ^ 40) c.args.grid.den c.args.grid.den_some (omega arith)
