use Rattle.std.proofs.Common.{◌∙◌, [], ap, append-nil, sym}
use Rattle.flow_measure.specs.report.Json.{run_text}
use Rattle.report_reader.specs.Pieces.{at_end}
use Rattle.measure_reader.specs.Reading.{run}
use Rattle.measure_reader.proofs.Runs.{run_back}
use Rattle.measure_reader.proofs.laws.runs_are_read_back.Goals as goal

pub returns : goal.returns
returns c = λ media r f. ap (run at_end) (sym (append-nil (run_text media r))) ∙ run_back at_end media r [] f
