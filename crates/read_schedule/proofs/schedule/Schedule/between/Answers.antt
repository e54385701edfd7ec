use Rattle.std.proofs.Common.{◌≤◌, ◌<◌, ◌+◌, ◌*◌, ◌^◌, ℕ, sym, subst, arith}
use Rattle.read_schedule.specs.Parts.{parts_at}
use Rattle.read_schedule.proofs.Spans.{from-due, up_to-ahead}
use Rattle.read_schedule.proofs.schedule.Schedule.between.Goals as goal

pub returns-clause-from : goal.returns-clause-from
returns-clause-from c = λ m n anchor gapped at left stood fits.
    let s = c.args.self.now in
    let e = c.of.ensures in
    from-due m n anchor gapped s.grid c.of.result c.args.early left s.step.whole s.step.part stood.grid e.step s.step_is s.step_left fits
    (subst (λ f. (t : ℕ) → t < 2 ^ 62 → f ≤ t → parts_at s.grid c.args.early ≤ (f + 2 ^ 49) * s.grid.den) (sym e.from) c.first_due-from.ensures.due)

pub returns-clause-up_to : goal.returns-clause-up_to
returns-clause-up_to c = λ m n anchor gapped at left stood few.
    let s = c.args.self.now in
    let e = c.of.ensures in
    up_to-ahead m n anchor gapped s.grid c.of.result c.args.late left s.step.whole s.step.part c.first_due-to.result c.of.result.lasts
    stood.grid e.step s.step_is
    (omega (arith, few, e.lasts, c.reads_left-2.ensures, c.min-lasts.ensures, c.min.ensures)) few
    (omega (arith, e.wide, e.from, e.lasts, c.saturating_sub.ensures, c.saturating_sub-2.ensures))
    c.first_due-to.ensures.ahead
