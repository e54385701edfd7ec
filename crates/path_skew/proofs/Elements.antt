-- The elements of a list by their places, after a write and after one was put at the end.
use Rattle.std.proofs.Common.{◌≡◌, ◌≢◌, ℕ, zero, suc, ◌<◌, List, [], ◌∷◌, ◌++◌, length, slice_get, slice_set, Some, refl, ap, arith}

pub slice_get-set_same : {X : Type 0} (xs : List X) (i : ℕ) (y : X) → i < length xs → slice_get (slice_set xs i y) i ≡ Some y
slice_get-set_same [] i y within = absurd (omega (arith, within))
slice_get-set_same (x ∷ xs) zero y within = refl
slice_get-set_same (x ∷ xs) (suc i) y within = slice_get-set_same xs i y (omega (arith, within))

pub slice_get-set_other : {X : Type 0} (xs : List X) (i j : ℕ) (y : X) → j ≢ i → slice_get (slice_set xs i y) j ≡ slice_get xs j
slice_get-set_other [] i j y differs = refl
slice_get-set_other (x ∷ xs) zero zero y differs = absurd (differs refl)
slice_get-set_other (x ∷ xs) zero (suc j) y differs = refl
slice_get-set_other (x ∷ xs) (suc i) zero y differs = refl
slice_get-set_other (x ∷ xs) (suc i) (suc j) y differs = slice_get-set_other xs i j y (λ same. differs (ap suc same))

pub slice_get-append : {X : Type 0} (xs ys : List X) (i : ℕ) → i < length xs → slice_get (xs ++ ys) i ≡ slice_get xs i
slice_get-append [] ys i within = absurd (omega (arith, within))
slice_get-append (x ∷ xs) ys zero within = refl
slice_get-append (x ∷ xs) ys (suc i) within = slice_get-append xs ys i (omega (arith, within))

pub slice_get_push : {X : Type 0} (xs : List X) (y : X) → slice_get (xs ++ y ∷ []) (length xs) ≡ Some y
slice_get_push [] y = refl
slice_get_push (x ∷ xs) y = slice_get_push xs y
