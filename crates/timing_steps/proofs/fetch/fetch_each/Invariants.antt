use Rattle.std.proofs.Common.{◌≤◌, length}
use Rattle.std.specs.Prelude.{take}
use Rattle.timing_outside.specs.Shelves.{StaysAs}
use Rattle.pcapng_reader.specs.Classic.{classic_texts}
use Rattle.pcapng_reader.specs.Sources.{faults_of, left_of, name_of}
use Rattle.timing_steps.specs.Answers.{AreThere}
use Rattle.timing_steps.specs.Fetched.{AreFetched}
use Rattle.timing_steps.proofs.fetch.fetch_each.Given as goal

abbrev pub invariant-loop-number : goal.invariant-loop-number
invariant-loop-number g l = record {
  within : l.number ≤ length l.names;
  fetched : AreFetched (name_of g.H.Source.Source.name) (left_of g.H.Source.Source.left) (faults_of g.H.Source.Source.faults)
      (classic_texts (g.H.Shelf.text l.fn.shelf)) (take l.number l.names) l.sources.items;
  there : AreThere (g.H.Shelf.lacks l.fn.shelf) (take l.number l.names);
  stays : StaysAs g.H.Shelf.text g.H.Shelf.lacks g.H.Shelf.faults l.fn.shelf l.shelf;
}
