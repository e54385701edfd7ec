use Rattle.std.proofs.Common.{◌≡◌, ◌≤◌, ◌-ℤ◌, ◌*◌, ℕ, max, min, unsigned_abs, ap, ◌∙◌, sym, subst, arith}
use Rattle.std.proofs.lemmas.Int.{to_z-of_z}
use Rattle.std.specs.Int.{div_ceil}
use mir.Syntax.{w64}
use mir.Val.{of_z, to_z}
use Rattle.flow_page.proofs.lemmas.chart.Reaches.{steps_reach}
use Rattle.flow_page.proofs.chart.axis.steps_at.Goals as goal

pub returns-clause-room : goal.returns-clause-room
returns-clause-room c = λ within.
    let far : ℕ = unsigned_abs (c.args.greatest -ℤ c.args.low) in
    let apart : c.abs_diff.result ≡ far =
    c.abs_diff.ensures ∙ ap (λ z. unsigned_abs (z -ℤ to_z w64 (of_z w64 c.args.low))) (to_z-of_z w64 c.args.greatest c.ranges.greatest)
    ∙ ap (λ z. unsigned_abs (c.args.greatest -ℤ z)) (to_z-of_z w64 c.args.low c.ranges.low) in
    let count : c.div_ceil.result ≡ div_ceil far c.args.step = c.div_ceil.ensures ∙ ap (λ n. div_ceil n c.args.step) apart in
    let steps : c.min.result ≡ min 8 (max 3 (div_ceil far c.args.step)) = omega (arith, count, c.max.ensures, c.min.ensures) in
    subst (λ n. far ≤ c.args.step * n) (sym steps) (steps_reach far c.args.step c.requires within)
