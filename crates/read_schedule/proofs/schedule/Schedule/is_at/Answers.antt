use Rattle.read_schedule.proofs.Rounding.{rounded-at}
use Rattle.read_schedule.proofs.schedule.Schedule.is_at.Goals as goal

pub returns-clause-some : goal.returns-clause-some
returns-clause-some c = λ some.
    let s = c.args.self.now in
    rw c.eq.ensures (rounded-at s.last.at c.args.t s.grid.den _ s.last.slack (s.last_is some) s.last_left)
