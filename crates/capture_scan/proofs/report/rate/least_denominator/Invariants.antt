use Rattle.std.proofs.Common.{◌≡◌, ◌+◌, ◌-◌}
use Rattle.capture_scan.specs.report.Rates.{denominator_from}
use Rattle.capture_scan.proofs.report.rate.least_denominator.Given as goal

abbrev pub invariant-loop-before : goal.invariant-loop-before
invariant-loop-before l =
    denominator_from (1001 - l.before) (l.before + 1) l.frames l.ticks ≡ denominator_from 1001 1 l.frames l.ticks
