use Rattle.std.proofs.Common.{◌≡◌, ◌++◌, ap, ◌∙◌, arith}
use Rattle.std.specs.Prelude.{string_bytes}
use Rattle.flow_page.specs.chart.Grid.{some_mark_across}
use Rattle.flow_page.specs.chart.Pieces.{upto}
use Rattle.flow_page.proofs.lemmas.chart.Texts.{one_upto}
use Rattle.flow_page.proofs.chart.grid.add_marks_across.Goals as goal

pub loop-k-preserved : goal.loop-k-preserved
loop-k-preserved c =
    one_upto (some_mark_across c.args.plot) (string_bytes c.args.text.now) _ _ c.loop-k.k c.loop-k.invariant
    c.in_ok-add_some_mark_across.ensures

pub returns : goal.returns
returns c =
    let e : c.loop-k.k ≡ 8 = omega arith in
    c.loop-k.invariant ∙ ap (λ n. string_bytes c.args.text.now ++ upto (some_mark_across c.args.plot) n) e
