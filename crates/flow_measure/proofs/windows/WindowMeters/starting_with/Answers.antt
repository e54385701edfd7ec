use Rattle.std.proofs.Common.{FitsSigned, rules}
use Rattle.std.proofs.lemmas.Int.{to_z-of_z}
use Rattle.std.specs.Int.{w128}
use Rattle.flow_measure.proofs.Windowed.{by-kind}
use Rattle.flow_measure.proofs.windows.WindowMeters.starting_with.Goals as goal

pub returns-clause-stands : goal.returns-clause-stands
returns-clause-stands c =
    let fits : FitsSigned w128 c.args.n0 = search rules in
    let narrow = simp to_z-of_z at c.new.ensures.stands in
    let narrow_linear = simp to_z-of_z at c.new-2.ensures.stands in
    let wide = simp to_z-of_z at c.new-3.ensures.stands in
    by-kind _ narrow narrow_linear wide
