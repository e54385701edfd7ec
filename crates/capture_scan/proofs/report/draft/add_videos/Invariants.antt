use Rattle.std.proofs.Common.{◌≡◌, ◌++◌, drop}
use Rattle.std.specs.Prelude.{string_bytes}
use Rattle.std.specs.List.{flat_map}
use Rattle.capture_scan.specs.report.Draft.{video_text}
use Rattle.capture_scan.proofs.report.draft.add_videos.Given as goal

abbrev pub invariant-loop-video : goal.invariant-loop-video
invariant-loop-video l =
    string_bytes l.text ++ flat_map video_text (drop l.video-index l.videos)
    ≡ string_bytes l.fn.text ++ flat_map video_text l.videos
