use Rattle.std.proofs.Common.{FitsSigned, rules, arith}
use Rattle.std.proofs.lemmas.Int.{clamps, ints, to_z-of_z}
use Rattle.std.specs.Int.{w64}
use Rattle.flow_measure.proofs.lemmas.rows.Grouping.{place-kept}
use Rattle.flow_measure.proofs.rows.maker.RowMaker.widen.Goals as goal

pub returns-clause-row : goal.returns-clause-row
returns-clause-row c =
    let a = c.min-row.result in
    let b = c.max-row-2.result in
    let d = c.min-row-2.result in
    let e = c.max-row-3.result in
    let a_fits : FitsSigned w64 a = search rules in
    let b_fits : FitsSigned w64 b = search rules in
    let d_fits : FitsSigned w64 d = search rules in
    let e_fits : FitsSigned w64 e = search rules in
    record {
      place = place-kept c.args.self.now.row _ _ _ _ _ _;
      bucket = omega (arith, c.max-row.ensures);
      gapped_least = omega (arith, ints, clamps, to_z-of_z w64 a a_fits, c.min-row.ensures.value);
      gapped = omega (arith, ints, clamps, to_z-of_z w64 b b_fits, c.max-row-2.ensures.value);
      linear_least = omega (arith, ints, clamps, to_z-of_z w64 d d_fits, c.min-row-2.ensures.value);
      linear = omega (arith, ints, clamps, to_z-of_z w64 e e_fits, c.max-row-3.ensures.value);
    }
