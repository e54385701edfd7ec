use Rattle.std.proofs.Common.{◌≡◌, IfOk, subst}
use Rattle.std.proofs.lemmas.Int.{to_z-of_z}
use Rattle.std.specs.Fmt.{signed_decimal}
use Rattle.std.specs.Prelude.{string_bytes}
use mir.Syntax.{w128}
use Rattle.flow_page.proofs.chart.chart.number_text.Goals as goal

pub returns : goal.returns
returns c =
    subst (λ z. IfOk c.format.result (λ s. string_bytes s ≡ signed_decimal z))
    (to_z-of_z w128 c.args.number c.ranges.number) c.format.ensures.ok
