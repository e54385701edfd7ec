use Rattle.std.proofs.Common.{◌∙◌}
use Rattle.std.specs.Prelude.{string_bytes}
use Rattle.flow_page.proofs.Texts.{added_ok, bars_is}
use Rattle.flow_page.proofs.often.add_often_figure.Goals as goal

pub returns : goal.returns
returns c =
    added_ok c.add_bars_figure.result (string_bytes c.args.text.now) _ _ _ c.add_bars_figure.ensures
    (bars_is _ _ _ _ _ _ _ _ (c.as_str.ensures.value ∙ c.in_ok-title.ensures) (c.as_str-2.ensures.value ∙ c.in_ok-detail.ensures)
    (c.as_slice.ensures.value ∙ c.in_ok-bars.ensures))
