-- A list of which each item is replaced in turn.
use Rattle.std.proofs.Common.{◌≡◌, ◌<◌, ℕ, zero, suc, List, [], ◌∷◌, ◌++◌, length, drop, take, get_or, set, arith, ap, refl, ◌∙◌, append-nil}
use Rattle.std.proofs.lemmas.List.{drop_all, take_all}
use Rattle.std.specs.Prelude.{map}

-- the items before this place were replaced
abbrev pub mapped_to : {X : Type 0} → (X → X) → ℕ → List X → List X
mapped_to f i xs = map f (take i xs) ++ drop i xs

-- the item at the place is as it was
pub mapped-at : {X : Type 0} (f : X → X) (i : ℕ) (xs : List X) (d : X) → i < length xs → get_or (mapped_to f i xs) i d ≡ get_or xs i d
mapped-at f zero [] d within = absurd (omega (arith, within))
mapped-at f (suc i) [] d within = absurd (omega (arith, within))
mapped-at f zero (x ∷ xs) d within = refl
mapped-at f (suc i) (x ∷ xs) d within = mapped-at f i xs d (omega (arith, within))

-- one more is replaced
pub mapped-next : {X : Type 0} (f : X → X) (i : ℕ) (xs : List X) (d : X) → i < length xs → set (mapped_to f i xs) i (f (get_or xs i d)) ≡ mapped_to f (suc i) xs
mapped-next f zero [] d within = absurd (omega (arith, within))
mapped-next f (suc i) [] d within = absurd (omega (arith, within))
mapped-next f zero (x ∷ xs) d within = refl
mapped-next f (suc i) (x ∷ xs) d within = ap (λ l. f x ∷ l) (mapped-next f i xs d (omega (arith, within)))

-- what a vector has after all of it was lent and written
pub written-back : {X : Type 0} (len : ℕ) (new old : List X) → length new ≡ len → length old ≡ len → take len (new ++ drop (length new) old) ≡ new
written-back len new old long as-long =
    ap (λ l. take len (new ++ l)) (drop_all (length new) old (omega (arith, long, as-long))) ∙ ap (take len) (append-nil new)
    ∙ take_all len new (omega (arith, long))
