use Rattle.std.proofs.Common.{◌≡◌, ◌≤◌, ◌-◌, false, ◌∙◌, sym, arith}
use Rattle.timing_base.specs.Flows.{is_cut, packet}
use Rattle.interval_checker.proofs.Faults.{order-timestamp}
use Rattle.interval_checker.proofs.before.Before.fault.Goals as goal

pub returns-clause-is : goal.returns-clause-is
returns-clause-is c = λ packets i after read cut counted.
    let none : is_cut packets i ≡ false = sym cut ∙ c.if-cut-2.false in
    let order : (packet packets (i - 1)).at ≤ (packet packets i).at = omega (arith, after.at, read.at) in
    c.timestamp_fault.ensures packets i c.args.at after read none ∙ sym (order-timestamp packets i none order)
