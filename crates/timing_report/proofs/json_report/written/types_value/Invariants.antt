use Rattle.std.proofs.Common.{◌≡◌, take}
use Rattle.std.specs.Prelude.{map}
use Rattle.serde_json.specs.View.{view}
use Rattle.timing_report.specs.json_report.Json.{type_data}
use Rattle.timing_report.proofs.json_report.written.types_value.Given as goal

abbrev pub invariant-loop-kind : goal.invariant-loop-kind
invariant-loop-kind l = map view l.types.items ≡ map (type_data l.params.media l.judged) (take l.kind-index l.kind-items)
