use Rattle.std.proofs.Common.{◌≡◌, map}
use Rattle.capture_scan.proofs.streams.Streams.finish.Given as goal

-- the streams of the entries so far
abbrev pub invariant-loop-counter : goal.invariant-loop-counter
invariant-loop-counter l = l.streams.items ≡ map (λ e. e.1.now.stream) l.yielded
