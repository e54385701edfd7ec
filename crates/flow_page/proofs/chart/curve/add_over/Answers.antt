use Rattle.flow_page.proofs.lemmas.chart.Texts.{over_more}
use Rattle.flow_page.proofs.chart.curve.add_over.Goals as goal

pub loop-column-preserved : goal.loop-column-preserved
loop-column-preserved c =
    over_more c.args.plot c.args.columns.now c.loop-column.column c.loop-column.before.tenths _ _ _ _ _ c.loop-column-test.true
    c.top_of-y.ensures c.in_ok-add_turn.ensures c.loop-column.invariant
