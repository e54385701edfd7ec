use Rattle.std.proofs.Common.{ℤ, [], arith, subst}
use Rattle.std.specs.Prelude.{FitsSigned}
use Rattle.std.specs.Int.{w128}
use Rattle.std.proofs.lemmas.Int.{ints, to_z-of_z}
use Rattle.timing_base.specs.declared.media.Kind.TheVariants.{N, NL, W}
use Rattle.offset_window.specs.Stands.{StandsFor}
use Rattle.timing_reach.proofs.window.meters.WindowMeters.new.Goals as goal

pub returns-clause-stands : goal.returns-clause-stands
returns-clause-stands c =
    let params = c.args.params.now in
    let fits : FitsSigned w128 c.args.n0 = omega (arith, ints, c.requires.low, c.requires.high) in
    let same = to_z-of_z w128 c.args.n0 fits in
    record {
      narrow = subst (λ (z : ℤ). StandsFor params N z c.new.result []) same c.new.ensures.stands;
      narrow_linear = subst (λ (z : ℤ). StandsFor params NL z c.new-2.result []) same c.new-2.ensures.stands;
      wide = subst (λ (z : ℤ). StandsFor params W z c.new-3.result []) same c.new-3.ensures.stands;
    }
