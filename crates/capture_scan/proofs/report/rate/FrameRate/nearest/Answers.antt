use Rattle.std.proofs.Common.{sym, ◌∙◌}
use Rattle.capture_scan.specs.report.Rates.{faster}
use Rattle.capture_scan.proofs.lemmas.report.Rates.{found_here, found_later}
use Rattle.capture_scan.proofs.report.rate.FrameRate.nearest.Goals as goal

pub returns-then-is_slow : goal.returns-then-is_slow
returns-then-is_slow c =
    found_here c.args.fields c.args.rate c.loop-next.slow faster c.loop-next.next-index _ _ c.loop-next-test.true
    (sym c.is_slow.ensures ∙ c.if-is_slow.true) c.loop-next.invariant

pub loop-next-preserved : goal.loop-next-preserved
loop-next-preserved c =
    found_later c.args.fields c.args.rate c.loop-next.slow faster c.loop-next.next-index _ _ c.loop-next-test.true
    (sym c.is_slow.ensures ∙ c.if-is_slow.false) c.loop-next.invariant
