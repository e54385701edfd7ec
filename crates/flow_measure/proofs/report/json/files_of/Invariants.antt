use Rattle.std.proofs.Common.{◌≡◌, ◌++◌, drop, false}
use Rattle.std.specs.Prelude.{string_bytes, nat_lt}
use Rattle.flow_measure.specs.report.Json.{files_text}
use Rattle.flow_measure.proofs.report.json.files_of.Given as goal

abbrev pub invariant-loop-file : goal.invariant-loop-file
invariant-loop-file l =
    string_bytes l.text ++ files_text (nat_lt 0 l.file) (drop l.file l.names) (drop l.file l.notes) ≡ files_text false l.names l.notes
