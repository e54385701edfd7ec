use Rattle.std.proofs.Common.{◌≡◌, drop}
use Rattle.capture_scan.specs.report.Rates.{nearest, nearest_from}
use Rattle.capture_scan.proofs.report.rate.FrameRate.nearest.Given as goal

abbrev pub invariant-loop-next : goal.invariant-loop-next
invariant-loop-next l =
    nearest_from l.fields l.rate l.slow (drop l.next-index l.next-items) ≡ nearest l.fields l.rate
