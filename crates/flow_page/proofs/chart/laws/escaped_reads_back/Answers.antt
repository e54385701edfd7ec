use Rattle.flow_page.proofs.lemmas.chart.Escapes.{none_is_markup, reads_back}
use Rattle.flow_page.proofs.chart.laws.escaped_reads_back.Goals as goal

pub returns : goal.returns
returns c = record { none = none_is_markup; back = reads_back }
