use Rattle.std.proofs.Common.{◌≡◌, ◌≤◌, ◌+◌, ◌-◌, ◌*◌, ◌^◌, ℕ, None}
use Rattle.pcap_reader.specs.Readers.{WillGive, end_note, frame_count, most_of, under}
use Rattle.timing_steps.specs.Printings.{IsCopying}
use Rattle.timing_steps.proofs.stream.print_records.Given as goal

abbrev pub invariant-loop-at : goal.invariant-loop-at
invariant-loop-at g l =
    let left = g.S.Source.left in
    record {
      copying : IsCopying (WillGive left) g.P.Printer.goes_on (record {
        old = g.K.Sink.written l.fn.out;
        new = g.K.Sink.written l.out;
        before = g.K.Sink.faults l.fn.out;
        now = g.K.Sink.faults l.out;
      }) l.fn.before l.records l.fn.reader l.reader l.fn.printer l.printer;
      fresh : end_note l.reader ≡ None;
      number_is : l.records ≡ frame_count l.reader;
      most : most_of l.reader ≡ most_of l.fn.reader;
      within : 16 * frame_count l.reader ≤ most_of l.reader;
      room : (count : ℕ) → g.P.Printer.room (frame_count l.reader + count) l.fn.printer → g.P.Printer.room count l.printer;
      later_out : g.K.Sink.faults l.fn.out ≤ g.K.Sink.faults l.out;
      name : g.S.Source.name (under l.reader) ≡ g.S.Source.name (under l.fn.reader);
      later : g.S.Source.faults (under l.fn.reader) ≤ g.S.Source.faults (under l.reader);
    }

abbrev pub decreases-loop-at : goal.decreases-loop-at
decreases-loop-at g l = 2 ^ 36 - frame_count l.reader
