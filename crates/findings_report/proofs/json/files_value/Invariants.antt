use Rattle.std.proofs.Common.{◌≡◌, ◌++◌, drop}
use Rattle.std.specs.Prelude.{map}
use Rattle.serde_json.specs.View.{view}
use Rattle.timing_report.specs.json_report.Json.{files_data}
use Rattle.findings_report.proofs.json.files_value.Given as goal

abbrev pub invariant-loop-file : goal.invariant-loop-file
invariant-loop-file l =
    map view l.values.items ++ files_data (drop l.file l.captures) (drop l.file l.notes) ≡ files_data l.captures l.notes
