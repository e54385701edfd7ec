use Rattle.std.proofs.Common.{◌≡◌, ◌≤◌, ◌+◌, ◌-◌, ◌*◌, ◌^◌, ℕ, List, length}
use Rattle.std.specs.Prelude.{All, IfErr, IfOk}
use Rattle.timing_outside.specs.Shelves.{StaysAs}
use Rattle.pcapng_reader.specs.Classic.{classic_texts}
use Rattle.pcapng_reader.specs.Sources.{faults_of, left_of, name_of}
use Rattle.timing_steps.specs.Fetched.{AreFetched}
use Rattle.timing_steps.specs.Ran.{Appended, output_of}
use Rattle.timing_steps.specs.Printings.{CopiesSome, CopiesSources}
use Rattle.timing_steps.proofs.stream.print_sources.Given as goal

abbrev pub invariant-loop-source : goal.invariant-loop-source
invariant-loop-source g l =
    let shelf = g.H.Shelf in
    let source = g.H.Source.Source in
    let sink = g.K.Sink in
    record {
      copying : (names : List (List ℕ)) → AreFetched (name_of source.name) (left_of source.left) (faults_of source.faults)
          (classic_texts (shelf.text l.fn.shelf)) names l.fn.sources.items
          → CopiesSources (name_of source.name) (left_of source.left) (faults_of source.faults) (classic_texts (shelf.text l.fn.shelf))
          (shelf.faults l.fn.shelf) (shelf.faults l.shelf) names l.source-iterator.rest.items g.P.Printer.goes_on g.P.Printer.holds g.P.Printer.text
          (output_of sink l.fn.out l.out) l.fn.printer l.printer l.done l.outcome;
      fresh : All (λ s. faults_of source.faults s ≡ 0) l.source-iterator.rest.items;
      count : IfOk l.outcome (λ _. length l.done.notes.items + length l.source-iterator.rest.items ≡ length l.fn.sources.items);
      before : IfOk l.outcome (λ _. l.done.records ≤ length l.done.notes.items * 2 ^ 36);
      room : IfOk l.outcome (λ _. g.P.Printer.room (2 ^ 41 - l.done.records) l.printer);
      some : IfOk l.outcome (λ _. CopiesSome g.P.Printer.goes_on (output_of sink l.fn.out l.out) l.fn.printer l.printer);
      front : IfErr l.outcome (λ _. (front : List ℕ) × Appended (output_of sink l.fn.out l.out) front);
      later : sink.faults l.fn.out ≤ sink.faults l.out;
      stays : StaysAs shelf.text shelf.lacks shelf.faults l.fn.shelf l.shelf;
    }
