use Rattle.std.proofs.Common.{◌≤◌, ◌-◌, arith}
use Rattle.read_schedule.proofs.Rounding.{count-few, rounded-le}
use Rattle.read_schedule.proofs.schedule.Schedule.seek.Goals.{then-passed-eq0, else-passed-eq0}
use Rattle.read_schedule.proofs.schedule.Schedule.seek.Goals as goal

pub invariant_of-self-clause-few : goal.invariant_of-self-clause-few
invariant_of-self-clause-few c =
    let g = c.args.self.now.grid in
    let r = c.rounded_up-self in
    count-few g c.count-passed.result c.args.t r.result.at r.result.slack c.count-passed.ensures.due c.requires.in_time
    (λ near. omega (arith, r.ensures.is near, c.instant.ensures.value))

pub invariant_of-self-clause-last_is : goal.invariant_of-self-clause-last_is
invariant_of-self-clause-last_is c = λ some.
    let g = c.args.self.now.grid in
    elim c.if-passed-eq0.branch [
      | then-passed-eq0 w ↦ absurd (omega (arith, some, w.if-passed-eq0))
      | else-passed-eq0 w ↦
          let r = w.rounded_up-self-else-passed-eq0 in
          let i = w.instant-else-passed-eq0 in
          let due = c.count-passed.ensures.due (c.count-passed.result - 1) (omega (arith, some)) in
          let near : r.result.at ≤ c.args.t =
          rounded-le r.result.at c.args.t g.den i.result r.result.slack r.ensures.low r.ensures.left (omega (arith, due, i.ensures.value)) in
          let is = r.ensures.is (omega (arith, near, c.requires.in_time)) in
          rw w.self-is (omega (arith, is, i.ensures.value))
    ]

pub invariant_of-self-clause-passed_few : goal.invariant_of-self-clause-passed_few
invariant_of-self-clause-passed_few c = omega (arith, invariant_of-self-clause-few c, c.rounded_up-self.ensures.most)
