use Rattle.std.proofs.Common.{◌≤◌}
use Rattle.std.specs.List.{flat_map, range_with_len}
use Rattle.std.specs.Io.KnownBytes.{Appends}
use Rattle.capture_gen.specs.Writing.{place_bytes}
use Rattle.capture_gen.proofs.frame.Frame.put.Given as goal

abbrev pub invariant-loop-place : goal.invariant-loop-place
invariant-loop-place g l = record {
  bytes : Appends (g.K.Sink.written l.fn.out) (g.K.Sink.written l.out) (flat_map (place_bytes l.self) (range_with_len 0 l.place));
  later : g.K.Sink.faults l.fn.out ≤ g.K.Sink.faults l.out;
}
