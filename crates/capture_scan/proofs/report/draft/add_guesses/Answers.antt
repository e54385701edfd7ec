use Rattle.std.specs.Prelude.{codes, string_bytes}
use Rattle.timing_report.proofs.Appends.{two_ok}
use Rattle.capture_scan.specs.report.Draft.{guesses_text}
use Rattle.capture_scan.proofs.report.draft.add_guesses.Goals as goal

pub returns : goal.returns
returns c =
    two_ok c.add_others.result (string_bytes c.args.text.now) (codes "i=guessed: width") (guesses_text c.args.video.now.guesses) _ _
    c.in_ok-push_str.ensures.bytes c.add_others.ensures
