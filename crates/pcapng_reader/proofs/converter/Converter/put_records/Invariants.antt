use Rattle.std.proofs.Common.{◌≤◌, length}
use Rattle.pcapng_reader.specs.Texts.{Puts, work}
use Rattle.pcapng_reader.proofs.converter.Converter.put_records.Given as goal

abbrev pub invariant-loop-packet : goal.invariant-loop-packet
invariant-loop-packet l = record {
  within : l.end ≤ length l.out;
  puts : Puts l.at l.fn.out l.out l.fn.self l.self l.end;
}

abbrev pub decreases-loop-packet : goal.decreases-loop-packet
decreases-loop-packet l = work l.self
