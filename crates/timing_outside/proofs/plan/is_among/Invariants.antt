use Rattle.std.proofs.Common.{◌≡◌, drop}
use Rattle.timing_outside.specs.Counts.{is_planned}
use Rattle.timing_outside.proofs.plan.is_among.Given as goal

abbrev pub invariant-loop-fail : goal.invariant-loop-fail
invariant-loop-fail l = is_planned (drop l.fail-index l.fails) l.number ≡ is_planned l.fails l.number
