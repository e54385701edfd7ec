use Rattle.std.proofs.Common.{◌≡◌, ◌≤◌, ◌-◌, ◌↔◌, true, subst}
use Rattle.read_schedule.specs.declared.grid.Grid.{Grid}
use Rattle.read_schedule.specs.Parts.{parts_at, parts_of}
use Rattle.read_schedule.proofs.Instants.{are_due, on_time-is, past-later, stands-later}
use Rattle.read_schedule.proofs.schedule.Schedule.advance.Goals as goal

pub returns-clause-due : goal.returns-clause-due
returns-clause-due c = λ m n anchor gapped before order stood.
    let g = c.args.self.now.grid in
    let e = c.catch_up.ensures in
    let due = e.due (past-later m n anchor gapped c.args.self.now before c.args.at order stood) in
    let some = subst
    (λ (h : Grid). 1 ≤ c.catch_up.new.self.passed → (c.is_at.result ≡ true) ↔ (parts_of h c.args.at ≡ parts_at h (c.catch_up.new.self.passed - 1)))
    e.grid c.is_at.ensures.some in
    record {
      count = are_due m n anchor gapped g c.args.at _ stood.grid due e.ahead;
      on_time = on_time-is m n anchor gapped g c.args.at _ c.is_at.result stood.grid due c.is_at.ensures.none some;
    }

pub returns-clause-stands : goal.returns-clause-stands
returns-clause-stands c = stands-later c.args.self.now c.catch_up.new.self c.args.at c.catch_up.ensures.grid c.catch_up.ensures.due
