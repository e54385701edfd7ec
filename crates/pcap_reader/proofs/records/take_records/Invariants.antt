use Rattle.std.proofs.Common.{◌≡◌, ◌≤◌, ◌+◌, ◌-◌, ◌*◌, ◌^◌, ℕ, List, None}
use Rattle.timing_base.specs.Captures.{Record}
use Rattle.timing_base.specs.declared.capture.FileNote.{FileNote}
use Rattle.pcap_reader.specs.Readers.{WillGive, end_note, frame_count, most_of, under}
use Rattle.pcap_reader.specs.Taken.{HasBegun, TakesFew}
use Rattle.pcap_reader.proofs.records.take_records.Given as goal

abbrev pub invariant-loop-note : goal.invariant-loop-note
invariant-loop-note g l =
    let left = g.S.Source.left in
    let takes = g.T.Taker.takes in
    record {
      told : (items : List Record) (end : FileNote) → WillGive left l.fn.reader items end
          → HasBegun (WillGive left l.reader) takes l.before l.fn.taker l.taker (frame_count l.reader) items end;
      fed : TakesFew takes (frame_count l.reader) l.fn.taker l.taker;
      fresh : end_note l.reader ≡ None;
      most : most_of l.reader ≡ most_of l.fn.reader;
      within : 16 * frame_count l.reader ≤ most_of l.reader;
      room : (count : ℕ) → g.T.Taker.room (l.before + 1) (frame_count l.reader + count) l.fn.taker
          → g.T.Taker.room (l.before + frame_count l.reader + 1) count l.taker;
      name : g.S.Source.name (under l.reader) ≡ g.S.Source.name (under l.fn.reader);
      later : g.S.Source.faults (under l.fn.reader) ≤ g.S.Source.faults (under l.reader);
    }

abbrev pub decreases-loop-note : goal.decreases-loop-note
decreases-loop-note g l = 2 ^ 36 - frame_count l.reader
