-- Two lists, compared item by item.
use Rattle.std.specs.Prelude.{ℕ, ◌+◌, ⊤, List, [], ◌∷◌}

-- the lists have the same length, and `Holds` is true of the items at each position and of the position; the first
-- position has this number
abbrev pub EachOf : {X Y : Type 0} → (Holds : (number : ℕ) → X → Y → Type 0) → (number : ℕ) → List X → List Y → Type 0
EachOf Holds number [] [] = ⊤
EachOf Holds number [] (y ∷ ys) = ⊥
EachOf Holds number (x ∷ xs) [] = ⊥
EachOf Holds number (x ∷ xs) (y ∷ ys) = Holds number x y × EachOf Holds (number + 1) xs ys

-- the lists have the same length, and `Holds` is true of the items at each position
abbrev pub AllPairs : {X Y : Type 0} → (Holds : X → Y → Type 0) → List X → List Y → Type 0
AllPairs Holds [] [] = ⊤
AllPairs Holds [] (y ∷ ys) = ⊥
AllPairs Holds (x ∷ xs) [] = ⊥
AllPairs Holds (x ∷ xs) (y ∷ ys) = Holds x y × AllPairs Holds xs ys
