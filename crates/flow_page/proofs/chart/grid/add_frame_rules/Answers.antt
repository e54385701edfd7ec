use Rattle.std.specs.Prelude.{string_bytes}
use Rattle.flow_page.specs.chart.Grid.{frame_rule}
use Rattle.flow_page.proofs.lemmas.chart.Texts.{one_upto}
use Rattle.flow_page.proofs.chart.grid.add_frame_rules.Goals as goal

pub loop-k-preserved : goal.loop-k-preserved
loop-k-preserved c =
    one_upto (frame_rule c.args.plot c.args.every) (string_bytes c.args.text.now) _ _ c.loop-k.k c.loop-k.invariant
    c.in_ok-add_frame_rule.ensures
