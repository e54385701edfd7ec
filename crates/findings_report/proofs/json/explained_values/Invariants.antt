use Rattle.std.proofs.Common.{◌≡◌, map, take}
use Rattle.serde_json.specs.View.{view}
use Rattle.findings_report.specs.Json.{explained_data}
use Rattle.findings_report.proofs.json.explained_values.Given as goal

abbrev pub invariant-loop-flow : goal.invariant-loop-flow
invariant-loop-flow l = map view l.values.items ≡ map (explained_data l.session) (take l.flow-index l.flows)
