use Rattle.std.proofs.Common.{◌∙◌, [], ap, append-nil, sym}
use Rattle.flow_measure.specs.report.Json.{buffer_text, level_text}
use Rattle.report_reader.specs.Pieces.{at_end}
use Rattle.measure_reader.specs.Reading.{buffer, level}
use Rattle.measure_reader.proofs.Numbers.{buffer_back, level_back}
use Rattle.measure_reader.proofs.laws.numbers_are_read_back.Goals as goal

pub returns-clause-level : goal.returns-clause-level
returns-clause-level c = λ s f. ap (level at_end) (sym (append-nil (level_text s))) ∙ level_back at_end s [] f

pub returns-clause-buffer : goal.returns-clause-buffer
returns-clause-buffer c = λ b f. ap (buffer at_end) (sym (append-nil (buffer_text b))) ∙ buffer_back at_end b [] f
