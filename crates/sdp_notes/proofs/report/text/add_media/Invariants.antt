use Rattle.std.proofs.Common.{◌≡◌, ◌++◌, ◌+◌, drop}
use Rattle.std.specs.Prelude.{string_bytes}
use Rattle.sdp_notes.specs.report.Text.{media_text}
use Rattle.sdp_notes.proofs.report.text.add_media.Given as goal

abbrev pub invariant-loop-index : goal.invariant-loop-index
invariant-loop-index l =
    string_bytes l.text ++ media_text (l.index + 1) (drop l.index l.videos) ≡ string_bytes l.fn.text ++ media_text 1 l.videos
