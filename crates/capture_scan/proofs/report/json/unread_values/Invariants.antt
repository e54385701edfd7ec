use Rattle.std.proofs.Common.{◌≡◌, take}
use Rattle.std.specs.Prelude.{map}
use Rattle.serde_json.specs.View.{view}
use Rattle.capture_scan.specs.report.Json.{unread_data}
use Rattle.capture_scan.proofs.report.json.unread_values.Given as goal

abbrev pub invariant-loop-target : goal.invariant-loop-target
invariant-loop-target l = map view l.values.items ≡ map unread_data (take l.target-index l.unread)
