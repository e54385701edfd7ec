use Rattle.std.proofs.Common.{◌≡◌, ◌++◌, List, take}
use Rattle.clap.specs.Words.{app_of}
use Rattle.timing_words.specs.Clap.{bare}
use Rattle.timing_words.specs.Line.{Sort}
use Rattle.timing_words.specs.Sorts.{sorts_of}
use Rattle.timing_words.proofs.command.taking.Given as goal

abbrev pub invariant-loop-name : goal.invariant-loop-name
invariant-loop-name l = (taken : List Sort) → app_of l.initial.parser ≡ bare taken
    → app_of l.parser ≡ bare (taken ++ sorts_of l.valued (take l.name-index l.names))
