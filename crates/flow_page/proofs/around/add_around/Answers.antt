use Rattle.std.proofs.Common.{[], ◌∷◌, ap, ◌∙◌}
use Rattle.std.specs.Prelude.{string_bytes}
use Rattle.flow_page.specs.declared.chart.lines.Limit.{Limit}
use Rattle.flow_page.proofs.Texts.{added_ok, curve_is}
use Rattle.flow_page.proofs.around.add_around.Goals as goal

pub returns : goal.returns
returns c =
    added_ok c.add_curve_figure.result (string_bytes c.args.text.now) _ _ _ c.add_curve_figure.ensures
    (curve_is _ _ _ _ _ _ _ _ _ _ (c.as_str.ensures.value ∙ c.in_ok-title.ensures) (c.as_str-2.ensures.value ∙ c.in_ok-detail.ensures)
    c.around_scene-scene.ensures.value (c.as_slice.ensures.value ∙ c.in_ok-lines.ensures ∙ ap (λ (line : Limit). line ∷ []) c.broken_line.ensures)
    c.as_slice-columns.ensures)
