use Rattle.std.proofs.Common.{◌≡◌, drop}
use Rattle.std.specs.Prelude.{fold}
use Rattle.capture_scan.specs.report.Draft.{videos_of, with_stream}
use Rattle.capture_scan.proofs.report.draft.Draft.of.Given as goal

abbrev pub invariant-loop-stream : goal.invariant-loop-stream
invariant-loop-stream l = fold with_stream l.videos.items (drop l.stream-index l.streams) ≡ videos_of l.streams
