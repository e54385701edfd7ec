use Rattle.std.proofs.Common.{◌≡◌, ◌≤◌, ◌+◌, ◌-◌, ◌*◌, ◌^◌, length}
use Rattle.std.specs.Prelude.{All, IfOk}
use Rattle.timing_outside.specs.Shelves.{StaysAs}
use Rattle.pcap_reader.specs.Taken.{TakesFew}
use Rattle.pcapng_reader.specs.Sources.{faults_of}
use Rattle.timing_steps.specs.Taken.{TakesTexts}
use Rattle.timing_steps.proofs.Captured.{Goes}
use Rattle.timing_steps.proofs.captures.take_sources.Given as goal

abbrev pub invariant-loop-source : goal.invariant-loop-source
invariant-loop-source g l = record {
  reading : Goes g.H.Shelf g.H.Source.Source l.fn.shelf l.shelf l.fn.sources.items l.source-iterator.rest.items l.outcome (length l.taken.notes.items)
      (λ read. TakesTexts g.T.Taker.takes read l.fn.taker l.taker l.taken);
  fresh : All (λ source. (faults_of g.H.Source.Source.faults) source ≡ 0) l.source-iterator.rest.items;
  count : IfOk l.outcome (λ _. length l.taken.notes.items + length l.source-iterator.rest.items ≡ length l.fn.sources.items);
  before : IfOk l.outcome (λ _. l.taken.records ≤ length l.taken.notes.items * 2 ^ 36);
  room : IfOk l.outcome (λ _. g.T.Taker.room (l.taken.records + 1) (2 ^ 40 - l.taken.records) l.taker);
  few : IfOk l.outcome (λ _. TakesFew g.T.Taker.takes (length l.taken.notes.items * 2 ^ 36) l.fn.taker l.taker);
  stays : StaysAs g.H.Shelf.text g.H.Shelf.lacks g.H.Shelf.faults l.fn.shelf l.shelf;
}
