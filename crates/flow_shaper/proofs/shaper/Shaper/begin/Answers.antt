use Rattle.std.proofs.Common.{refl, subst, arith}
use Rattle.std.specs.Prelude.{FitsSigned, ℤ}
use Rattle.std.specs.Int.{w128}
use Rattle.std.proofs.lemmas.Int.{ints, to_z-of_z}
use Rattle.flow_shaper.specs.Choice.{HaveStarted}
use Rattle.flow_shaper.proofs.shaper.Shaper.begin.Goals as goal

pub returns-clause-starts : goal.returns-clause-starts
returns-clause-starts c =
    let s = c.args.self.now in
    let fits : FitsSigned w128 s.n0 = omega (arith, ints, s.n0_low, s.n0_high) in (
      c.start.result,
      refl,
      subst (λ (z : ℤ). HaveStarted c.args.params.now s.kind z c.args.at c.start.result) (to_z-of_z w128 s.n0 fits) c.start.ensures,
    )
