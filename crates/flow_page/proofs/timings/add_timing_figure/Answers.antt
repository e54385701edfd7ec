use Rattle.std.proofs.Common.{◌≡◌, ℕ, List, ap, ◌∙◌}
use Rattle.std.specs.Prelude.{string_bytes}
use Rattle.flow_measure.specs.declared.columns.Extremes.{Extremes}
use Rattle.flow_page.specs.chart.Charts.{curve_axis}
use Rattle.flow_page.specs.Timings.{detail_at, timing_columns, timing_detail, timing_lines, timing_step}
use Rattle.flow_page.specs.declared.chart.axis.Axis.{Axis}
use Rattle.flow_page.specs.declared.chart.lines.Limit.{Limit}
use Rattle.flow_page.proofs.Texts.{added_ok, curve_is}
use Rattle.flow_page.proofs.timings.add_timing_figure.Goals as goal

pub returns : goal.returns
returns c =
    let m = c.args.media.now in
    let s = c.args.shown.now in
    let timing = c.args.timing in
    let period = c.args.period in
    let columns = timing_columns s.curves timing in
    let lines : c.as_slice.result.now ≡ timing_lines s.run.numbers.target period timing = c.as_slice.ensures.value ∙ c.in_ok-lines.ensures in
    let step : c.curve_axis-step.result.step ≡ timing_step period s timing =
    ap (λ (a : Axis). a.step) c.curve_axis-step.ensures
    ∙ ap (λ (x : List Limit). (curve_axis x c.timing_columns-columns.result.now).step) lines
    ∙ ap (λ (x : List Extremes). (curve_axis (timing_lines s.run.numbers.target period timing) x).step) c.timing_columns-columns.ensures in
    let detail : c.as_str-2.result.now ≡ timing_detail m period s timing =
    c.as_str-2.ensures.value ∙ c.in_ok-detail.ensures ∙ ap (λ (n : ℕ). detail_at m n period s timing) step in
    added_ok c.add_curve_figure.result (string_bytes c.args.text.now) _ _ _ c.add_curve_figure.ensures
    (curve_is _ _ _ _ _ _ _ _ _ _ (c.as_str.ensures.value ∙ c.in_ok-title.ensures) detail c.timing_scene-scene.ensures.value
    (c.as_slice-2.ensures.value ∙ c.in_ok-lines.ensures) c.timing_columns-columns.ensures)
