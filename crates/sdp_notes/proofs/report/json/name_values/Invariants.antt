use Rattle.std.proofs.Common.{◌≡◌, map, take}
use Rattle.serde_json.specs.View.{view}
use Rattle.sdp_notes.specs.report.Json.{shown_data}
use Rattle.sdp_notes.proofs.report.json.name_values.Given as goal

abbrev pub invariant-loop-name : goal.invariant-loop-name
invariant-loop-name l = map view l.values.items ≡ map shown_data (map (λ name. name.now) (take l.name-index l.names))
