use Rattle.std.proofs.Common.{◌≡◌, ◌≤◌, ◌<◌, ◌+◌, ◌-◌, ◌^◌, ◌↔◌, ℕ, arith, subst}
use Rattle.std.proofs.Math.Nat.{add-mul}
use Rattle.read_schedule.specs.declared.grid.Grid.{Grid}
use Rattle.read_schedule.specs.declared.schedule.Schedule.{Schedule}
use Rattle.read_schedule.specs.Parts.{parts_at, parts_of}
use Rattle.read_schedule.proofs.Instants.{are_due, past-later, stands-later}
use Rattle.read_schedule.proofs.Rounding.{rounded-before, rounded-le}
use Rattle.read_schedule.proofs.Turns.{parts_at-rises}
use Rattle.read_schedule.proofs.schedule.Schedule.next_after.Goals as goal

-- the next read is due exactly from its instant, rounded up, on
next_due : (s : Schedule) (t : ℕ) → t < 2 ^ 62 → (parts_at s.grid s.passed ≤ parts_of s.grid t) ↔ (s.next.at - 2 ^ 49 ≤ t)
next_due s t low = (
  λ due.
      let early : s.next.at ≤ t + 2 ^ 49 = rounded-le s.next.at (t + 2 ^ 49) s.grid.den _ s.next.slack s.next_low s.next_left due in
      omega (arith, early),
  λ late.
      let early : s.next.at ≤ t + 2 ^ 49 = omega (arith, late) in
      rounded-before s.next.at (t + 2 ^ 49) s.grid.den _ s.next.slack (s.next_is (omega (arith, early, low))) early,
)

-- a read is a nanosecond or more before the one after it
apart : (g : Grid) (x t : ℕ) → parts_at g (x + 1) ≤ parts_of g (t + 1) → parts_at g x ≤ parts_of g t
apart g x t due =
    let later : parts_of g (t + 1) ≡ parts_of g t + g.den = omega (arith, add-mul (t + 2 ^ 49) 1 g.den) in
    omega (arith, due, later, parts_at-rises g x, g.step_slow)

pub returns-clause-next : goal.returns-clause-next
returns-clause-next c = λ m n anchor gapped before order stood.
    let g = c.args.self.now.grid in
    let s = c.catch_up.new.self in
    let e = c.catch_up.ensures in
    let due = e.due (past-later m n anchor gapped c.args.self.now before c.args.at order stood) in
    let next = λ (t : ℕ) (low : t < 2 ^ 62). subst (λ (h : Grid). (parts_at h s.passed ≤ parts_of h t) ↔ (s.next.at - 2 ^ 49 ≤ t)) e.grid (next_due s t low) in
    record {
      count = are_due m n anchor gapped g c.args.at _ stood.grid due e.ahead;
      due = λ t low. (
        λ read. omega (arith, (next t low).0 ((stood.grid.before s.passed t).0 read), c.saturating_sub.ensures),
        λ late. (stood.grid.before s.passed t).1 ((next t low).1 (omega (arith, late, c.saturating_sub.ensures))),
      );
      apart = λ t read. (stood.grid.before s.passed t).1 (apart g s.passed t ((stood.grid.before (s.passed + 1) (t + 1)).0 read));
    }

pub returns-clause-stands : goal.returns-clause-stands
returns-clause-stands c = stands-later c.args.self.now c.catch_up.new.self c.args.at c.catch_up.ensures.grid c.catch_up.ensures.due
