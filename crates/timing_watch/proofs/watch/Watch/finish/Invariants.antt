use Rattle.std.proofs.Common.{◌≡◌, ◌++◌, ℕ, List}
use Rattle.std.specs.Prelude.{string_bytes}
use Rattle.timing_base.specs.Captures.{Record}
use Rattle.timing_base.specs.Jobs.{WatchJob}
use Rattle.timing_base.specs.Media.{Media}
use Rattle.timing_watch.specs.making.Watches.{StandsFor, text_of}
use Rattle.timing_watch.proofs.Ends.{HasLeft}
use Rattle.timing_watch.proofs.watch.Watch.finish.Given as goal

abbrev pub invariant-loop-flow : goal.invariant-loop-flow
invariant-loop-flow l = (job : WatchJob) (first : ℕ) (media : List Media) (gone : List ℕ) (items : List Record) → StandsFor job first media gone l.fn.self items
    → (left : List ℕ) × (string_bytes l.text ≡ text_of l.fn.self ++ left)
    × HasLeft job first media items left l.rows.items l.flow-iterator.rest.items
