use Rattle.std.proofs.Common.{List, ℕ, ◌++◌, length, ap, ◌∙◌}
use Rattle.std.specs.Prelude.{false, string_bytes}
use Rattle.timing_report.proofs.Appends.{two_ok}
use Rattle.flow_page.specs.chart.Bars.{bars_picture, plot_of_bars}
use Rattle.flow_page.specs.chart.Charts.{bars_axis, bars_panel}
use Rattle.flow_page.specs.chart.Figures.{figure_end, figure_start}
use Rattle.flow_page.specs.declared.chart.axis.Axis.{Axis}
use Rattle.flow_page.specs.declared.chart.grid.Unit.TheVariants.{Packets}
use Rattle.flow_page.specs.declared.chart.plot.Panel.{Panel}
use Rattle.flow_page.proofs.chart.chart.add_bars_figure.Goals as goal

pub returns : goal.returns
returns c =
    let r = c.add_figure_end.result in
    let bars = c.args.bars.now in
    let mid : List ℕ = string_bytes c.add_figure_start.new.text in
    let to : Panel → Axis → List ℕ = λ p a. bars_picture (plot_of_bars p a (length bars)) Packets c.args.along c.args.total bars in
    let start : List ℕ = figure_start false c.args.title.now c.args.detail.now in
    let b : List ℕ = to (bars_panel (bars_axis bars)) (bars_axis bars) in
    two_ok r (string_bytes c.args.text.now) start (b ++ figure_end) _ _ c.in_ok-add_figure_start.ensures
    (two_ok r mid b figure_end _ _
    (c.in_ok-add_bars.ensures ∙ ap (λ p. mid ++ to p c.bars_axis-axis.result) c.in_ok-panel.ensures
    ∙ ap (λ a. mid ++ to (bars_panel a) a) c.bars_axis-axis.ensures) c.add_figure_end.ensures)
