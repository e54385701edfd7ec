use Rattle.timing_outside.specs.Shelves.{StaysAs}
use Rattle.pcapng_reader.specs.Sources.{faults_of, name_of}
use Rattle.timing_steps.specs.Fetched.{Returning}
use Rattle.timing_steps.proofs.fetch.give_back_all.Given as goal

abbrev pub invariant-loop-source : goal.invariant-loop-source
invariant-loop-source g l = record {
  returning : Returning (name_of g.H.Source.Source.name) (faults_of g.H.Source.Source.faults) (g.H.Shelf.faults l.fn.shelf) (g.H.Shelf.faults l.shelf)
      l.fn.sources.items l.source-iterator.rest.items;
  stays : StaysAs g.H.Shelf.text g.H.Shelf.lacks g.H.Shelf.faults l.fn.shelf l.shelf;
}
