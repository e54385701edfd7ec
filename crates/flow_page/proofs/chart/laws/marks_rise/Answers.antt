use Rattle.flow_page.proofs.lemmas.chart.Rises.{high_stands, low_stands, mark_falls, rises, rises_above, stands_within}
use Rattle.flow_page.proofs.chart.laws.marks_rise.Goals as goal

pub returns : goal.returns
returns c = record {
  rises = rises;
  above = rises_above;
  falls = λ height a x y up. mark_falls height a x y (rises a x y up);
  low = low_stands;
  high = high_stands;
  within = stands_within;
}
