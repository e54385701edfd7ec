use Rattle.std.proofs.Common.{◌≡◌, drop}
use Rattle.capture_scan.specs.report.Draft.{has_target}
use Rattle.capture_scan.proofs.report.draft.has_target.Given as goal

abbrev pub invariant-loop-video : goal.invariant-loop-video
invariant-loop-video l = has_target l.target (drop l.video-index l.videos) ≡ has_target l.target l.videos
