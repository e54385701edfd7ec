use Rattle.std.proofs.Common.{◌≡◌, ◌+◌, ◌-◌, ◌*◌, ◌/◌, ◌%◌, ◌^◌, refl, ap, arith}
use Rattle.std.proofs.lemmas.Nat.{mod_below}
use Rattle.offset_window.proofs.Quiets.{between-is}
use Rattle.offset_window.proofs.quiet.Quiet.between.Goals as goal

pub returns-clause-between : goal.returns-clause-between
returns-clause-between c = λ _.
    let g = c.args.grid.now in
    let last = c.args.last in
    let den = c.from-den.result in
    let rest = mod_below last den (omega (arith, c.from-den.ensures, g.den_some)) in
    let top : (last % den + 1) * 2 ^ 64 % 2 ^ 128 ≡ (last % den + 1) * 2 ^ 64 = omega (arith, rest, c.from-den.ensures, g.den_small) in
    let step : c.from.result * 2 ^ 64 % 2 ^ 128 ≡ g.step * 2 ^ 64 = omega (arith, c.from.ensures, g.step_small) in
    between-is g c.args.first last den (last / den) (((last % den + 1) * 2 ^ 64 % 2 ^ 128 - 1) / den) _ c.min.result _ c.from-den.ensures refl
    (ap (λ x. (x - 1) / den) top) (ap (λ x. x / den) step) (omega (arith, c.if-last-first.false)) (omega (arith, c.min.ensures))
    (omega (arith, c.if-whole.false)) refl refl
