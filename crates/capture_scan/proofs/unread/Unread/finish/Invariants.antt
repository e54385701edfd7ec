use Rattle.std.proofs.Common.{◌≡◌, map}
use Rattle.capture_scan.proofs.unread.Unread.finish.Given as goal

-- the targets of the entries so far
abbrev pub invariant-loop-target : goal.invariant-loop-target
invariant-loop-target l =
    l.targets.items
    ≡ map (λ e. record { target = e.0.now; packets = e.1.now }) l.yielded
