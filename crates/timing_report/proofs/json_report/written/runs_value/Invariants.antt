use Rattle.std.proofs.Common.{◌≡◌, take}
use Rattle.std.specs.Prelude.{map}
use Rattle.serde_json.specs.View.{view}
use Rattle.timing_report.specs.json_report.Json.{run_data}
use Rattle.timing_report.proofs.json_report.written.runs_value.Given as goal

abbrev pub invariant-loop-run : goal.invariant-loop-run
invariant-loop-run l = map view l.values.items ≡ map (run_data l.media) (take l.run-index l.runs)
