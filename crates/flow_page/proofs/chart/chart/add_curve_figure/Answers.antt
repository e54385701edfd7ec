use Rattle.std.proofs.Common.{List, ℕ, ◌++◌, ap, ◌∙◌}
use Rattle.std.specs.Prelude.{string_bytes}
use Rattle.timing_report.proofs.Appends.{two_ok}
use Rattle.flow_page.specs.chart.Charts.{curve_axis, curve_text, plot_of}
use Rattle.flow_page.specs.chart.Figures.{figure_end, figure_start}
use Rattle.flow_page.proofs.chart.chart.add_curve_figure.Goals as goal

pub returns : goal.returns
returns c =
    let r = c.add_figure_end.result in
    let s = c.args.scene in
    let xs = c.args.columns.now in
    let ls = c.args.lines.now in
    let a : List ℕ = figure_start s.wide c.args.title.now c.args.detail.now in
    let b : List ℕ = curve_text (plot_of s (curve_axis ls xs)) s ls xs in
    two_ok r (string_bytes c.args.text.now) a (b ++ figure_end) _ _ c.in_ok-add_figure_start.ensures
    (two_ok r _ b figure_end _ _
    (c.in_ok-add_curve.ensures ∙ ap (λ p. string_bytes c.add_figure_start.new.text ++ curve_text p s ls xs)
    (c.in_ok-plot.ensures ∙ ap (plot_of s) c.curve_axis.ensures)) c.add_figure_end.ensures)
