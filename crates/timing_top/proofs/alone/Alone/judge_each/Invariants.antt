use Rattle.std.proofs.Common.{◌≡◌, ◌+◌, length}
use Rattle.std.specs.Prelude.{All, IfOk}
use Rattle.timing_outside.specs.Shelves.{StaysAs}
use Rattle.fail_interval.specs.Found.{AreFound}
use Rattle.fail_interval.specs.Rows.{rows_of_files}
use Rattle.pcapng_reader.specs.Sources.{faults_of}
use Rattle.timing_report.specs.Outcomes.{AreOfSession}
use Rattle.timing_steps.proofs.Captured.{Goes}
use Rattle.timing_top.proofs.alone.Alone.judge_each.Given as goal

abbrev pub invariant-loop-source : goal.invariant-loop-source
invariant-loop-source g l = record {
  reading : Goes g.H.Shelf g.H.Source.Source l.fn.shelf l.shelf l.fn.sources.items l.source-iterator.rest.items l.outcome (length l.found.notes.items)
      (λ read. AreFound read (rows_of_files l.self.options 0 l.self.media.now) l.found.notes.items l.found.rows.items);
  fresh : All (λ source. (faults_of g.H.Source.Source.faults) source ≡ 0) l.source-iterator.rest.items;
  count : IfOk l.outcome (λ _. length l.found.notes.items + length l.source-iterator.rest.items ≡ length l.fn.sources.items);
  of_session : IfOk l.outcome (λ _. AreOfSession l.self.media.now l.found.rows.items);
  stays : StaysAs g.H.Shelf.text g.H.Shelf.lacks g.H.Shelf.faults l.fn.shelf l.shelf;
}
