use Rattle.std.specs.Prelude.{string_bytes}
use Rattle.timing_report.proofs.Appends.{two_ok}
use Rattle.timing_report.specs.Verdict.{counts_text, places_text}
use Rattle.timing_report.proofs.verdict.add_judged.Goals as goal

pub returns : goal.returns
returns c = two_ok c.add_places.result (string_bytes c.args.text.now) (counts_text c.args.media.now c.args.judged.now)
    (places_text c.args.media.now c.args.judged.now) _ _ c.in_ok-add_counts.ensures c.add_places.ensures
