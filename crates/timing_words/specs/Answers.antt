-- How a result of the code relates to a definition.
use Rattle.std.specs.Prelude.{◌≡◌, Option, Some, None, Result, Ok, Err}
use Rattle.timing_words.specs.declared.line.WordFault.{WordFault}
use Rattle.timing_words.specs.declared.line.WordFault.TheVariants.{Usage}

-- an `Ok` has the defined value, and `Usage` is returned only if there is none; `OutOfMemory` may always be returned
abbrev pub Gives : {A : Type 0} → Option A → Result A WordFault → Type 0
Gives o (Ok v) = o ≡ Some v
Gives o (Err e) = e ≡ Usage → o ≡ None
