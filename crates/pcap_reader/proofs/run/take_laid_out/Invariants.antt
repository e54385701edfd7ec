use Rattle.std.proofs.Common.{◌≤◌, ◌+◌, ◌-◌, ◌*◌, ◌++◌, ℕ, List, length}
use Rattle.timing_base.specs.Captures.{Record}
use Rattle.timing_base.specs.declared.capture.FileNote.{FileNote}
use Rattle.pcap_reader.specs.Records.{RecordsFrom}
use Rattle.pcap_reader.specs.Runs.{BehindRun}
use Rattle.pcap_reader.specs.Taken.{HasBegun, TakesFew}
use Rattle.pcap_reader.proofs.run.take_laid_out.Given as goal

abbrev pub invariant-loop-head : goal.invariant-loop-head
invariant-loop-head g l =
    let takes = g.T.Taker.takes in
    record {
      told : (most place : ℕ) (behind : List ℕ) (items : List Record) (end : FileNote)
          → place + length l.bytes ≤ most → RecordsFrom l.layout most l.number place (l.bytes ++ behind) items end
          → HasBegun (BehindRun l.layout most l.number place (l.bytes ++ behind) l.run) takes l.before l.fn.taker l.taker l.run.records items end;
      fed : TakesFew takes l.run.records l.fn.taker l.taker;
      within : l.run.size ≤ length l.bytes;
      few : 16 * l.run.records ≤ l.run.size;
      room : (count : ℕ) → g.T.Taker.room (l.before + l.number) (l.run.records + count) l.fn.taker
          → g.T.Taker.room (l.before + l.number + l.run.records) count l.taker;
    }

abbrev pub decreases-loop-head : goal.decreases-loop-head
decreases-loop-head g l = length l.bytes - l.run.size
