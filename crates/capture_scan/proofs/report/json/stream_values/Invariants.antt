use Rattle.std.proofs.Common.{◌≡◌, take}
use Rattle.std.specs.Prelude.{map}
use Rattle.serde_json.specs.View.{view}
use Rattle.capture_scan.specs.report.Json.{stream_data}
use Rattle.capture_scan.proofs.report.json.stream_values.Given as goal

abbrev pub invariant-loop-stream : goal.invariant-loop-stream
invariant-loop-stream l = map view l.values.items ≡ map stream_data (take l.stream-index l.streams)
