use Rattle.std.proofs.Common.{◌≡◌, List, ap, ◌∙◌}
use Rattle.std.specs.Prelude.{string_bytes}
use Rattle.flow_measure.specs.declared.columns.Extremes.{Extremes}
use Rattle.flow_measure.specs.declared.summary.Summary.{Summary}
use Rattle.flow_page.specs.declared.chart.chart.Scene.{Scene}
use Rattle.flow_page.specs.Levels.{level_columns, level_detail, level_lines, level_scene, level_summary}
use Rattle.flow_page.proofs.Texts.{added_ok, curve_is}
use Rattle.flow_page.proofs.levels.add_level_figure.Goals as goal

pub returns : goal.returns
returns c =
    let level = c.args.level in
    let view = c.args.view in
    let types = c.args.types.now in
    let run = c.args.shown.now.run in
    let summary = level_summary run.numbers level in
    let scene = level_scene c.args.media.now run.judged view in
    let columns = level_columns c.args.shown.now.curves view level in
    let detail : c.as_str-2.result.now ≡ level_detail view level summary scene.across columns types =
    c.as_str-2.ensures.value ∙ c.in_ok-detail.ensures
    ∙ ap (λ (s : Summary). level_detail view level s c.level_scene-scene.result.across c.level_columns-columns.result.now types)
    c.level_summary-summary.ensures
    ∙ ap (λ (s : Scene). level_detail view level summary s.across c.level_columns-columns.result.now types) c.level_scene-scene.ensures.value
    ∙ ap (λ (x : List Extremes). level_detail view level summary scene.across x types) c.level_columns-columns.ensures in
    let lines : c.as_slice.result.now ≡ level_lines level types = c.as_slice.ensures.value ∙ c.in_ok-lines.ensures in
    added_ok c.add_curve_figure.result (string_bytes c.args.text.now) _ _ _ c.add_curve_figure.ensures
    (curve_is _ _ _ _ _ _ _ _ _ _ (c.as_str.ensures.value ∙ c.in_ok-title.ensures) detail c.level_scene-scene.ensures.value lines
    c.level_columns-columns.ensures)
