use Rattle.std.proofs.Common.{◌≡◌, ◌≤◌, length}
use Rattle.std.specs.Option.{option_map}
use Rattle.std.specs.Io.KnownBytes.{Keeps}
use Rattle.pcapng_reader.specs.Texts.{text_of}
use Rattle.pcapng_reader.proofs.converter.Converter.give_read.Given as goal

abbrev pub invariant-loop-count : goal.invariant-loop-count
invariant-loop-count g l =
    let left = g.S.Reads.left in
    record {
      bytes : Keeps (option_map (text_of l.fn.self) (left l.fn.source)) (option_map (text_of l.self) (left l.source));
      name : g.S.Reads.name l.source ≡ g.S.Reads.name l.fn.source;
      later : g.S.Reads.faults l.fn.source ≤ g.S.Reads.faults l.source;
      same_length : length l.buf ≡ length l.fn.buf;
    }

abbrev pub decreases-loop-count : goal.decreases-loop-count
decreases-loop-count g l = l.self.budget
