use Rattle.std.proofs.Common.{◌≤◌, ◌<◌, ◌+◌, ◌*◌, ◌^◌, ℕ, sym, subst}
use Rattle.read_schedule.specs.Parts.{parts_at}
use Rattle.read_schedule.proofs.Spans.{from-due}
use Rattle.read_schedule.proofs.schedule.Schedule.after.Goals as goal

pub returns-clause-from : goal.returns-clause-from
returns-clause-from c = λ m n anchor gapped at left stood fits.
    let s = c.args.self.now in
    let e = c.of.ensures in
    from-due m n anchor gapped s.grid c.of.result c.args.early left s.step.whole s.step.part stood.grid e.step s.step_is s.step_left fits
    (subst (λ f. (t : ℕ) → t < 2 ^ 62 → f ≤ t → parts_at s.grid c.args.early ≤ (f + 2 ^ 49) * s.grid.den) (sym e.from) c.first_due.ensures.due)
