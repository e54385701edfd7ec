use Rattle.std.proofs.Common.{◌≤◌, ◌+◌, ◌-◌, ◌^◌, arith}
use Rattle.fail_interval.specs.BankStands.{records}
use Rattle.usage_hints.proofs.joined.take_joined.Goals as goal

pub loop-number-preserved : goal.loop-number-preserved
loop-number-preserved g c =
    let was = records c.loop-number.bank in
    let more = c.in_ok-taken.taken.records in
    let before = c.loop-number.invariant.before in
    let fed = c.loop-number.invariant.fed in
    let within : was + more ≤ 2 ^ 41 = omega (arith, before, fed, c.in_ok-taken.ensures.few, c.loop-number-test.true, c.requires.few) in
    let room = c.in_ok-taken.ensures.room (2 ^ 41 - (was + more)) (omega (arith, within)) in
    record {
      before = omega (arith, before, c.in_ok-taken.ensures.few);
      fed = omega (arith, fed, room, within);
    }
