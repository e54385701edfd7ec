use Rattle.std.proofs.Common.{◌-◌, length}
use Rattle.std.specs.Prelude.{string_bytes}
use Rattle.flow_measure.specs.Columns.{column_at}
use Rattle.flow_page.proofs.lemmas.chart.Texts.{next_from, none_back, none_from, one_back}
use Rattle.flow_page.proofs.chart.curve.add_under.Goals as goal

pub loop-done-init : goal.loop-done-init
loop-done-init c = (
  none_back c.args.plot c.args.columns.now (string_bytes c.args.text.now),
  none_from c.args.plot c.args.columns.now _ _ c.requires c.top_of-before.ensures,
)

pub loop-done-preserved : goal.loop-done-preserved
loop-done-preserved c =
    let at = c.bottom_of-y.ensures in (
      one_back c.args.plot c.args.columns.now c.loop-done.done _ (string_bytes c.args.text.now) _ _ _ _ c.loop-done-test.true
          c.loop-done.invariant.0 c.loop-done.invariant.1 at c.in_ok-add_turn.ensures,
      next_from c.args.plot c.args.columns.now c.loop-done.done _ (column_at c.args.columns.now (length c.args.columns.now - 1)) _
          c.loop-done-test.true at,
    )
