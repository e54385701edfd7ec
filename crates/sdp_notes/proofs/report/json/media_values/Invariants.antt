use Rattle.std.proofs.Common.{◌≡◌, ◌++◌, ◌+◌, map, drop}
use Rattle.serde_json.specs.View.{view}
use Rattle.sdp_notes.specs.report.Json.{all_media_data}
use Rattle.sdp_notes.proofs.report.json.media_values.Given as goal

abbrev pub invariant-loop-index : goal.invariant-loop-index
invariant-loop-index l = map view l.values.items ++ all_media_data (l.index + 1) (drop l.index l.videos) ≡ all_media_data 1 l.videos
