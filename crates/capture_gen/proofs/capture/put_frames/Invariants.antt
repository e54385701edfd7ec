use Rattle.std.proofs.Common.{◌≤◌}
use Rattle.std.specs.List.{flat_map, range_with_len}
use Rattle.std.specs.Io.KnownBytes.{Appends}
use Rattle.capture_gen.specs.Writing.{bytes_of_frame}
use Rattle.capture_gen.proofs.capture.put_frames.Given as goal

abbrev pub invariant-loop-index : goal.invariant-loop-index
invariant-loop-index g l = record {
  bytes : Appends (g.K.Sink.written l.fn.out) (g.K.Sink.written l.out) (flat_map (bytes_of_frame l.number l.frames l.flaw) (range_with_len 0 l.index));
  later : g.K.Sink.faults l.fn.out ≤ g.K.Sink.faults l.out;
}
