use Rattle.capture_scan.proofs.lemmas.report.Guesses.{never-added}
use Rattle.capture_scan.proofs.report.laws.other_streams_have_no_video.Goals as goal

pub returns : goal.returns
returns c = never-added
