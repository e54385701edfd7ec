-- Lists with one number more at the end.
use Rattle.std.proofs.Common.{◌≡◌, ◌≤◌, ◌<◌, ◌⊎◌, ℕ, List, [], ◌∷◌, ◌++◌, length, slice_index, ap, ◌∙◌, inl, inr, arith, length-append}
use Rattle.std.proofs.Math.Seq.{get_or-append_seam}
use Rattle.std.proofs.lemmas.Bool.{cases_lt}
use Rattle.std.proofs.lemmas.List.{get_or_append_left}
use Rattle.sender_params.specs.Ticks.{NeverFall}

-- a number of such a list is one of the list, or the last
pub seam : (xs : List ℕ) (y i : ℕ)
    → i < length (xs ++ y ∷ [])
    → ((i < length xs) × (slice_index (xs ++ y ∷ []) i ≡ slice_index xs i)) ⊎ ((i ≡ length xs) × (slice_index (xs ++ y ∷ []) i ≡ y))
seam xs y i few =
    elim (cases_lt i (length xs)) as (λ _. ((i < length xs) × (slice_index (xs ++ y ∷ []) i ≡ slice_index xs i))
    ⊎ ((i ≡ length xs) × (slice_index (xs ++ y ∷ []) i ≡ y))) [
      | inl early ↦ inl (early, get_or_append_left xs (y ∷ []) 0 i early)
      | inr late ↦
          let same : i ≡ length xs = omega (arith, late, few, length-append xs (y ∷ [])) in
          inr (same, ap (slice_index (xs ++ y ∷ [])) same ∙ get_or-append_seam xs y [] 0)
    ]

-- those before it stay
pub before : (xs : List ℕ) (y i : ℕ) → i < length xs → slice_index (xs ++ y ∷ []) i ≡ slice_index xs i
before xs y i few = get_or_append_left xs (y ∷ []) 0 i few

-- it is the last
pub last : (xs : List ℕ) (y i : ℕ) → i ≡ length xs → slice_index (xs ++ y ∷ []) i ≡ y
last xs y i same = ap (slice_index (xs ++ y ∷ [])) same ∙ get_or-append_seam xs y [] 0

-- a list that never falls goes on with a number that isn't below any of it
pub falls-append : (xs : List ℕ) (y : ℕ)
    → NeverFall xs
    → ((i : ℕ) → i < length xs → slice_index xs i ≤ y)
    → NeverFall (xs ++ y ∷ [])
falls-append xs y falls low j i order few =
    elim (seam xs y i few) as (λ _. slice_index (xs ++ y ∷ []) j ≤ slice_index (xs ++ y ∷ []) i) [
      | inl early ↦ omega (arith, early.1, before xs y j (omega (arith, order, early.0)), falls j i order early.0)
      | inr late ↦ elim (seam xs y j (omega (arith, order, few))) as (λ _. slice_index (xs ++ y ∷ []) j ≤ slice_index (xs ++ y ∷ []) i) [
        | inl sooner ↦ omega (arith, late.1, sooner.1, low j sooner.0)
        | inr same ↦ omega (arith, late.1, same.1)
      ]
    ]
