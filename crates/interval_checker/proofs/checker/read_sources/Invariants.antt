use Rattle.std.proofs.Common.{◌≡◌, ◌≤◌, ◌+◌, ◌-◌, ◌*◌, ◌^◌, [], ℕ, List, length}
use Rattle.std.specs.Prelude.{IfOk, vec_capacity, vec_len}
use Rattle.timing_base.specs.Captures.{Record, joined}
use Rattle.timing_base.specs.declared.capture.FileNote.{FileNote}
use Rattle.pcap_reader.specs.Records.{AreRecords}
use Rattle.interval_checker.specs.Readings.{AreSame, HaveRead, HaveRoom}
use Rattle.interval_checker.specs.Sources.{TellTexts}
use Rattle.interval_checker.specs.Taking.{Goes, Hands}
use Rattle.interval_checker.proofs.Goings.{FailedAt}
use Rattle.interval_checker.proofs.checker.read_sources.Given as goal

abbrev pub invariant-loop-source : goal.invariant-loop-source
invariant-loop-source g l =
    let left = g.S.Source.left in
    let faults = g.S.Source.faults in
    record {
      goes : (texts : List (List ℕ)) (files : List (List Record)) (notes : List FileNote) → TellTexts left l.fn.sources.items texts
          → AreRecords texts files notes → HaveRead l.fn.readings.items []
          → Goes left l.source-iterator.rest.items (joined files) l.checking.readings.items l.outcome;
      hands : Hands g.S.Source.name faults l.fn.sources.items l.back.items l.source-iterator.rest.items;
      failed : FailedAt faults l.fn.sources.items l.back.items l.outcome;
      same : IfOk l.outcome (λ _. AreSame l.fn.readings.items l.checking.readings.items);
      count : vec_len l.back + length l.source-iterator.rest.items ≡ length l.fn.sources.items;
      room : length l.fn.sources.items ≤ vec_capacity l.back;
      few : IfOk l.outcome (λ _. HaveRoom (2 ^ 36 * (16 - vec_len l.back)) l.checking.readings.items);
      before : IfOk l.outcome (λ before. before ≤ 2 ^ 36 * vec_len l.back);
    }
