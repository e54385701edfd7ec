use Rattle.std.proofs.Common.{ap, ◌∙◌}
use Rattle.flow_page.specs.chart.Lines.{placed}
use Rattle.flow_page.proofs.lemmas.chart.Texts.{lines_more}
use Rattle.flow_page.proofs.chart.lines.add_lines.Goals as goal

pub loop-line-preserved : goal.loop-line-preserved
loop-line-preserved c =
    lines_more c.args.plot c.args.lines.now c.loop-line.line-index _ c.loop-line.names _ _ _ _ _ c.loop-line-test.true
    (c.placed-base.ensures ∙ ap (λ y. placed y c.loop-line.names) c.base_of.ensures) c.with_name.ensures c.in_ok-add_line.ensures
    c.loop-line.invariant
