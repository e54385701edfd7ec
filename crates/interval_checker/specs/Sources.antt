-- The sources that are read and returned. They count from 0.
use Rattle.std.specs.Prelude.{◌≡◌, ◌≤◌, ℕ, zero, suc, List, [], ◌∷◌, Option, Some, ⊤}
use Rattle.timing_outside.specs.Causes.{Rose}

-- each source has these contents left to read, and they are known
abbrev pub TellTexts : {S : Type 0} → (left : S → Option (List ℕ)) → List S → List (List ℕ) → Type 0
TellTexts left [] [] = ⊤
TellTexts left (s ∷ ss) (t ∷ ts) = (left s ≡ Some t) × TellTexts left ss ts
TellTexts left sources texts = ⊥

-- the same sources, in order: each has the same name, and its count of faults hasn't fallen
abbrev pub AreBack : {S : Type 0} → (name : S → List ℕ) → (faults : S → ℕ) → (old new : List S) → Type 0
AreBack name faults [] [] = ⊤
AreBack name faults (o ∷ os) (n ∷ ns) = (name n ≡ name o) × (faults o ≤ faults n) × AreBack name faults os ns
AreBack name faults old new = ⊥

-- there is a source with this number, and its count of faults rose
abbrev pub RoseAt : {S : Type 0} → (faults : S → ℕ) → (old new : List S) → (number : ℕ) → Type 0
RoseAt faults (o ∷ os) (n ∷ ns) zero = Rose (faults o) (faults n)
RoseAt faults (o ∷ os) (n ∷ ns) (suc k) = RoseAt faults os ns k
RoseAt faults old new number = ⊥
