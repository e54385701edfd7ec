use Rattle.std.proofs.Common.{length, take, ◌-◌, ◌≤◌}
use Rattle.std.specs.Io.KnownBytes.{Appends}
use Rattle.timing_outside.proofs.sink.put_all.Given as goal

abbrev pub invariant-loop-at : goal.invariant-loop-at
invariant-loop-at g l =
    record {
      bytes : Appends (g.K.Sink.written l.fn.out) (g.K.Sink.written l.out) (take l.at l.bytes);
      later : g.K.Sink.faults l.fn.out ≤ g.K.Sink.faults l.out;
      inside : l.at ≤ length l.bytes;
    }

abbrev pub decreases-loop-at : goal.decreases-loop-at
decreases-loop-at g l = length l.bytes - l.at
