use Rattle.std.proofs.Common.{◌≤◌, ◌*◌, ◌^◌}
use Rattle.fail_interval.specs.BankStands.{records}
use Rattle.usage_hints.proofs.joined.take_joined.Given as goal

abbrev pub invariant-loop-number : goal.invariant-loop-number
invariant-loop-number g l = record {
  before : l.before ≤ l.number * 2 ^ 36;
  fed : records l.bank ≤ l.before;
}
