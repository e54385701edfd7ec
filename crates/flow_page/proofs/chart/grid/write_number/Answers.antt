use Rattle.std.proofs.Common.{◌≡◌, ◌++◌, IfOk, subst}
use Rattle.std.proofs.lemmas.Int.{to_z-of_z}
use Rattle.std.specs.Prelude.{string_bytes}
use mir.Syntax.{w128}
use Rattle.flow_page.specs.chart.Grid.{number_piece}
use Rattle.flow_page.proofs.chart.grid.write_number.Goals as goal

pub returns : goal.returns
unfolding number_piece
returns c =
    subst (λ z. IfOk c.write.result (λ _. string_bytes c.write.new.self
    ≡ string_bytes c.args.text.now ++ number_piece c.args.beside.tenths c.args.base.tenths z))
    (to_z-of_z w128 c.args.number c.ranges.number) c.write.ensures.bytes
