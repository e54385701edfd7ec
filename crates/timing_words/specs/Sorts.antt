-- The options and flags in the tables of the code.
use Rattle.std.specs.Prelude.{Bool, List, map}
use Rattle.std.specs.Borrow.{Bor}
use Rattle.timing_words.specs.Line.{Sort, Text}

-- options or flags with these names
abbrev pub sorts_of : Bool → List (Bor Text) → List Sort
sorts_of valued names = map (λ s. record { name = s.now; valued = valued }) names
