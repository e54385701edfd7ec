use Rattle.std.proofs.Common.{◌≤◌, ◌<◌, ◌*◌, ◌/◌, ◌^◌, ℕ, arith}
use Rattle.sender_params.proofs.Turns.{groups-small, place-small}
use Rattle.interval_checker.specs.declared.reads.Reads.{Reads}
use Rattle.interval_checker.proofs.reads.Reads.read.Goals as goal

-- the groups before a read
before : (r : Reads) (x : ℕ) → x < 2 ^ 64 → (x / r.n) * r.group ≤ 2 ^ 115
before r x few = groups-small r.n r.group x r.group_small few

pub overflow_mul-group : goal.overflow_mul-group
overflow_mul-group c = rw c.from.ensures (omega (arith, before c.args.self.now c.args.x (omega arith)))

pub overflow_add-result : goal.overflow_add-result
overflow_add-result c = rw c.from.ensures (omega (arith, before c.args.self.now c.args.x (omega arith)))

pub overflow_add-result-2 : goal.overflow_add-result-2
overflow_add-result-2 c =
    let r = c.args.self.now in
    rw (c.from.ensures, c.from-2.ensures)
    (omega (arith, before r c.args.x (omega arith), place-small r.n r.step c.args.x r.n_some r.n_most r.step_small))
