use Rattle.std.proofs.Common.{refl, ap, ◌∙◌}
use Rattle.std.specs.Prelude.{string_bytes}
use Rattle.flow_page.specs.declared.chart.grid.UnitAcross.TheVariants.{Gap}
use Rattle.flow_page.specs.Often.{class_bars}
use Rattle.flow_page.proofs.Texts.{added_ok, bars_is}
use Rattle.flow_page.proofs.often.add_gaps.Goals as goal

pub returns : goal.returns
returns c =
    added_ok c.add_bars_figure.result (string_bytes c.args.text.now) _ _ _ c.add_bars_figure.ensures
    (bars_is _ _ _ _ Gap c.args.gaps.now.classes.seen _ _ refl (c.as_str.ensures.value ∙ c.in_ok-detail.ensures)
    (c.as_slice.ensures.value ∙ c.in_ok-bars.ensures ∙ ap (class_bars 0) c.counts.ensures.value))
