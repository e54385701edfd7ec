use Rattle.std.proofs.Common.{◌≤◌, ◌<◌, ◌*◌, ◌/◌, ◌^◌, ℕ, arith}
use Rattle.sender_params.proofs.Turns.{groups-small, place-small}
use Rattle.read_schedule.specs.declared.grid.Grid.{Grid}
use Rattle.read_schedule.proofs.grid.Grid.instant.Goals as goal

-- the groups before a read
before : (g : Grid) (x : ℕ) → x < 2 ^ 64 → (x / g.n) * g.group ≤ 2 ^ 115
before g x few = groups-small g.n g.group x g.group_small few

pub overflow_mul-group : goal.overflow_mul-group
overflow_mul-group c = rw c.from.ensures (omega (arith, before c.args.self.now c.args.x (omega arith)))

pub overflow_add-result : goal.overflow_add-result
overflow_add-result c = rw c.from.ensures (omega (arith, before c.args.self.now c.args.x (omega arith)))

pub overflow_add-result-2 : goal.overflow_add-result-2
overflow_add-result-2 c =
    let g = c.args.self.now in
    rw (c.from.ensures, c.from-2.ensures, c.from-3.ensures)
    (omega (arith, before g c.args.x (omega arith), place-small g.n g.step c.args.x g.n_some g.n_most g.step_small))

pub returns-clause-small : goal.returns-clause-small
returns-clause-small c =
    let g = c.args.self.now in
    rw (c.from.ensures, c.from-2.ensures, c.from-3.ensures)
    (omega (arith, before g c.args.x (omega arith), place-small g.n g.step c.args.x g.n_some g.n_most g.step_small))
