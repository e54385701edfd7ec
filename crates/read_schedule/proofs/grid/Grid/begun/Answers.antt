use Rattle.std.proofs.Common.{◌≡◌, ◌≤◌, ◌<◌, ◌+◌, ◌*◌, ◌^◌, ℕ, Bool, true, false, cond, ap, ◌∙◌, arith}
use Rattle.std.proofs.lemmas.Int.{ints}
use Rattle.std.proofs.Math.Nat.{mul-le-mul_right}
use Rattle.read_schedule.proofs.Grids.{is_grid_of, is_grid_without}
use Rattle.read_schedule.proofs.grid.Grid.begun.Goals as goal

-- the groups before read 0
groups : (lifted group : ℕ) → lifted ≤ 2 ^ 42 + 480 → lifted * group ≤ (2 ^ 42 + 480) * group
groups lifted group few = mul-le-mul_right group few

offset-low : (b : Bool) (offset : ℕ) → offset < 2 ^ 94 → cond b offset 0 < 2 ^ 94
offset-low true offset few = few
offset-low false offset few = omega arith

pub overflow_mul-early-2 : goal.overflow_mul-early-2
overflow_mul-early-2 c = rw c.from-2.ensures (omega arith)

pub overflow_sub-early : goal.overflow_sub-early
overflow_sub-early c = rw (c.from.ensures, c.from-2.ensures) (omega arith)

pub overflow_mul-result : goal.overflow_mul-result
overflow_mul-result c = omega (arith, groups c.lifted.result c.sizes_of-sizes.result.group c.lifted.ensures.small)

pub overflow_add-result : goal.overflow_add-result
overflow_add-result c =
    let a = groups c.lifted.result c.sizes_of-sizes.result.group c.lifted.ensures.small in
    rw (c.from.ensures, c.from-2.ensures) (omega (arith, a))

pub overflow_add-result-2 : goal.overflow_add-result-2
overflow_add-result-2 c =
    let s = c.sizes_of-sizes in
    let a = groups c.lifted.result s.result.group c.lifted.ensures.small in
    rw (c.from.ensures, c.from-2.ensures, c.offset_if.ensures)
    (omega (arith, a, offset-low c.args.has_offset s.result.offset s.ensures.offset_small))

pub invariant_of-result-clause-start_small : goal.invariant_of-result-clause-start_small
invariant_of-result-clause-start_small c =
    let s = c.sizes_of-sizes in
    let a = groups c.lifted.result s.result.group c.lifted.ensures.small in
    rw (c.from.ensures, c.from-2.ensures, c.offset_if.ensures)
    (omega (arith, a, offset-low c.args.has_offset s.result.offset s.ensures.offset_small))

pub returns-clause-with : goal.returns-clause-with
returns-clause-with c = λ has.
    let s = c.sizes_of-sizes in
    let e : c.offset_if.result ≡ s.result.offset = c.offset_if.ensures ∙ ap (λ b. cond b s.result.offset 0) has in
    is_grid_of _ _ _ _ c.lifted.result s.result.offset _ s.ensures.times s.ensures.sizes
    (omega arith)
    (omega (arith, ints, c.lifted.ensures.value))
    (omega arith)
    (rw (c.from.ensures, c.from-2.ensures, e) (omega arith))

pub returns-clause-without : goal.returns-clause-without
returns-clause-without c = λ has.
    let s = c.sizes_of-sizes in
    let e : c.offset_if.result ≡ 0 = c.offset_if.ensures ∙ ap (λ b. cond b s.result.offset 0) has in
    is_grid_without _ _ _ _ c.lifted.result s.result.offset _ s.ensures.times s.ensures.sizes
    (omega arith)
    (omega (arith, ints, c.lifted.ensures.value))
    (omega arith)
    (rw (c.from.ensures, c.from-2.ensures, e) (omega arith))
