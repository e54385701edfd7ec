use Rattle.flow_page.proofs.lemmas.chart.Peaks.{ends_each, spans_each}
use Rattle.flow_page.proofs.lemmas.chart.Spans.{on_curve_axis}
use Rattle.flow_page.proofs.chart.laws.no_peak_is_hidden.Goals as goal

pub returns : goal.returns
returns c = record { on = on_curve_axis; spans = spans_each; ends = ends_each }
