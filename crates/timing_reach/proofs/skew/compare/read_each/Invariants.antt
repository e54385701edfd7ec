use Rattle.std.proofs.Common.{◌≡◌, ◌≤◌, ◌+◌, ◌*◌, ◌^◌, ℕ, List, Option, length}
use Rattle.std.specs.Prelude.{All, IfOk}
use Rattle.timing_outside.specs.Shelves.{StaysAs}
use Rattle.pcapng_reader.specs.Sources.{faults_of, left_of, name_of}
use Rattle.timing_steps.specs.Fetched.{AreFetched, Reading}
use Rattle.timing_reach.specs.skew.Comparing.{AreCompared}
use Rattle.timing_reach.specs.skew.Pairs.{pair_given}
use Rattle.timing_reach.proofs.skew.compare.read_each.Given as goal

abbrev pub invariant-loop-source : goal.invariant-loop-source
invariant-loop-source g l =
    let name = name_of g.H.Source.Source.name in
    let left = left_of g.H.Source.Source.left in
    let faults = faults_of g.H.Source.Source.faults in
    record {
      reading : (texts : List ℕ → Option (List ℕ)) (names : List (List ℕ)) → AreFetched name left faults texts names l.fn.sources.items
          → Reading name left faults texts (g.H.Shelf.faults l.fn.shelf) (g.H.Shelf.faults l.shelf) names l.source-iterator.rest.items l.outcome
          (length l.comparing.notes.items) (λ read. AreCompared read l.first l.second l.count l.comparing);
      fresh : All (λ source. faults source ≡ 0) l.source-iterator.rest.items;
      count : IfOk l.outcome (λ _. length l.comparing.notes.items + length l.source-iterator.rest.items ≡ l.count);
      given : IfOk l.outcome (λ _. pair_given l.comparing.pairing ≤ length l.comparing.notes.items * 2 ^ 36);
      stays : StaysAs g.H.Shelf.text g.H.Shelf.lacks g.H.Shelf.faults l.fn.shelf l.shelf;
    }
