use Rattle.std.proofs.Common.{◌∙◌, arith}
use Rattle.std.specs.Prelude.{FitsSigned}
use Rattle.std.specs.Int.{w128}
use Rattle.std.proofs.lemmas.Int.{ints, to_z-of_z}
use Rattle.fail_interval.proofs.Metering.{fresh}
use Rattle.fail_interval.proofs.meters.RunMeters.new.Goals as goal

pub returns-clause-stands : goal.returns-clause-stands
returns-clause-stands c =
    let fits : FitsSigned w128 c.anchor-n0.result = omega (arith, ints, c.anchor-n0.ensures.low, c.anchor-n0.ensures.high) in
    let same = to_z-of_z w128 c.anchor-n0.result fits in
    fresh c.args.params.now c.args.origin _ _ _ _ _ _ _ _ c.new.ensures.origin (same ∙ c.anchor-n0.ensures.value)
    c.new.ensures.stands c.new-2.ensures c.new-3.ensures
    c.new-4.ensures.kind c.new-4.ensures.stands c.new-5.ensures.kind c.new-5.ensures.stands c.new-6.ensures.kind c.new-6.ensures.stands c.over.ensures.until
    c.over.ensures.brim
