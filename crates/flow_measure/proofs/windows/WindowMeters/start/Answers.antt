use Rattle.std.proofs.Common.{[], FitsSigned, rules, subst}
use Rattle.std.proofs.lemmas.Int.{to_z-of_z}
use Rattle.std.specs.Int.{w128}
use Rattle.offset_window.specs.Stands.{StandsFor}
use Rattle.flow_measure.specs.Offsets.{window_in}
use Rattle.flow_measure.proofs.windows.WindowMeters.start.Goals as goal

pub returns-clause-stands : goal.returns-clause-stands
returns-clause-stands c = λ kind.
    let p = c.args.params.now in
    let fits : FitsSigned w128 c.anchor.result = search rules in
    let stands = simp to_z-of_z at c.starting_with.ensures.stands in
    subst (λ a. StandsFor p kind a (window_in kind c.starting_with.result) []) c.anchor.ensures.value (stands kind)
