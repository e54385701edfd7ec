-- The texts of captures, as a shelf of classic captures tells them.
use Rattle.std.proofs.Common.{ℕ, List, [], ◌∷◌, Option, ap}
use Rattle.std.specs.Prelude.{map}
use Rattle.std.specs.Option.{option_map}
use Rattle.pcapng_reader.specs.Classic.{classic, classic_texts}
use Rattle.timing_steps.specs.Answers.{AreTold}

pub told-classic : (texts : List ℕ → Option (List ℕ)) (names read : List (List ℕ)) → AreTold texts names read
    → AreTold (classic_texts texts) names (map classic read)
told-classic texts [] [] h = tt
told-classic texts [] (t ∷ ts) h = absurd h
told-classic texts (n ∷ ns) [] h = absurd h
told-classic texts (n ∷ ns) (t ∷ ts) h = (ap (option_map classic) h.0, told-classic texts ns ts h.1)
