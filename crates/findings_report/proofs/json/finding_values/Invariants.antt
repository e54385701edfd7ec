use Rattle.std.proofs.Common.{◌≡◌, map, take}
use Rattle.serde_json.specs.View.{view}
use Rattle.findings_report.specs.Json.{finding_data}
use Rattle.findings_report.proofs.json.finding_values.Given as goal

abbrev pub invariant-loop-finding : goal.invariant-loop-finding
invariant-loop-finding l = map view l.values.items ≡ map finding_data (take l.finding-index l.findings)
