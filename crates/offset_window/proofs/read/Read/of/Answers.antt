use Rattle.std.proofs.Common.{◌≤◌, ◌<◌, ◌*◌, ◌/◌, ◌^◌, ℕ, arith}
use Rattle.sender_params.proofs.Turns.{groups-small, place-small}
use Rattle.read_schedule.specs.declared.grid.Grid.{Grid}
use Rattle.offset_window.proofs.read.Read.of.Goals as goal

-- the groups before a read
before : (g : Grid) (x : ℕ) → x < 2 ^ 64 → (x / g.n) * g.group ≤ 2 ^ 115
before g x few = groups-small g.n g.group x g.group_small few

pub overflow_mul-group : goal.overflow_mul-group
overflow_mul-group c = rw c.from.ensures (omega (arith, before c.args.grid c.args.number (omega arith)))

pub overflow_add-result : goal.overflow_add-result
overflow_add-result c = rw c.from.ensures (omega (arith, before c.args.grid c.args.number (omega arith), c.args.grid.start_small))

pub overflow_add-result-2 : goal.overflow_add-result-2
overflow_add-result-2 c =
    let g = c.args.grid in
    rw (c.from.ensures, c.from-2.ensures, c.from-3.ensures)
    (omega (arith, before g c.args.number (omega arith), place-small g.n g.step c.args.number g.n_some g.n_most g.step_small, g.start_small))
