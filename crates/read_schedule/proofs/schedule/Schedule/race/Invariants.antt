use Rattle.std.proofs.Common.{◌≡◌, ◌+◌, ◌-◌}
use Rattle.read_schedule.specs.Parts.{ArePast}
use Rattle.read_schedule.proofs.schedule.Schedule.race.Given as goal

abbrev pub invariant-loop-self : goal.invariant-loop-self
invariant-loop-self l = record {
  grid : l.self.grid ≡ l.fn.self.grid;
  due : ArePast l.fn.self.grid l.fn.self.passed l.t → ArePast l.fn.self.grid l.self.passed l.t;
}

abbrev pub decreases-loop-self : goal.decreases-loop-self
decreases-loop-self l = l.t + 1 - l.self.next.at
