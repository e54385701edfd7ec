-- What is opened to read texts and JSON values that are worked by hand.
use Rattle.std.specs.Prelude.{⊤}
use Rattle.report_reader.specs.JsonReading.{class_named, data_read, declared_named, fault_named, file_read, flow_read, judged_read}
use Rattle.report_reader.specs.JsonReading.{note_named, outcome_in, run_read, target_named}
use Rattle.report_reader.specs.JsonReading.{type_read, verdict_read}
use Rattle.report_reader.specs.Pieces.{line, number}
use Rattle.report_reader.specs.Reading.{class_word, declared_word, destination, ending, file_line, files_lines, flow_lines, flows_lines, group_word}
use Rattle.report_reader.specs.Reading.{groups_word, judged_lines, outcome, packet_fault, reason, report_within, run_lines, run_outcome, runs_lines}
use Rattle.report_reader.specs.Reading.{type_line, type_lines, verdict_lines, violation}

unfoldable pub readers : ⊤
unfolding line number class_word declared_word destination ending file_line files_lines flow_lines flows_lines group_word groups_word judged_lines
    outcome packet_fault reason report_within run_lines run_outcome runs_lines type_line type_lines verdict_lines violation
readers = tt

unfoldable pub json_readers : ⊤
unfolding readers class_named data_read declared_named fault_named file_read flow_read judged_read note_named outcome_in run_read target_named
    type_read verdict_read
json_readers = tt
