use Rattle.std.proofs.Common.{◌≡◌, ◌-◌, arith}
use Rattle.offset_window.proofs.Quiets.{between-same, left-same, quiet-from, with-same}
use Rattle.offset_window.proofs.quiet.Quiet.after.Goals as goal

pub returns-clause-quiet : goal.returns-clause-quiet
returns-clause-quiet c = λ some.
    let g = c.args.grid.now in
    let seen = c.args.seen in
    let q = c.between.result in
    let own = c.of-own in
    let freeing = c.of-freeing in
    let back : q.back ≡ c.args.full = c.between.ensures.back (omega (arith, some)) in
    let number : freeing.result.number ≡ seen - q.back = omega (arith, freeing.ensures.number, back) in
    quiet-from g c.args.late c.args.early seen c.left.result c.left-2.result c.min-left.result q
    (omega (arith, back, c.if-seen-full.false))
    (between-same g _ _ _ _ q
    (with-same g freeing.result.grid c.args.early (seen - q.back) freeing.result.number _ freeing.ensures.grid number c.with.ensures.value)
    (with-same g own.result.grid c.args.late seen own.result.number _ own.ensures.grid own.ensures.number c.with-2.ensures.value)
    (c.between.ensures.between (omega (arith, some))))
    c.between.ensures.until some
    (left-same g own.result.grid seen own.result.number _ own.ensures.grid own.ensures.number c.left.ensures)
    (left-same g freeing.result.grid (seen - q.back) freeing.result.number _ freeing.ensures.grid number c.left-2.ensures)
    (omega (arith, c.min-left.ensures)) (omega (arith, c.min-left.ensures)) (omega arith)
