-- What is on a sink after all of some bytes were to be written.
use Rattle.std.specs.Prelude.{ℕ, ◌<◌, List, length, take, Option, Result, MatchResult}
use Rattle.std.specs.Io.KnownBytes.{Appends}

-- a prefix that is shorter than the text was appended
abbrev pub AppendsFront : Option (List ℕ) → Option (List ℕ) → List ℕ → Type 0
AppendsFront old new text = (k : ℕ) × (k < length text) × Appends old new (take k text)

-- if `Ok`, the whole text was appended; if `Err`, a shorter prefix of it
abbrev pub PutsAll : {T E : Type 0} → (old new : Option (List ℕ)) → Result T E → List ℕ → Type 0
PutsAll old new result text =
    MatchResult result (λ _. Appends old new text) (λ _. AppendsFront old new text)
