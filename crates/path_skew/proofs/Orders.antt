-- The first of a list in an order doesn't depend on where its members stand.
use Rattle.std.proofs.Common.{◌≡◌, ℕ, ℤ, List, [], ◌∷◌, ◌++◌, Option, Some, None, true, false, refl, sym, ap, ◌∙◌, inl, inr}
use mathlib.Core.Bool.{true≢false, false≢true}
use Rattle.std.specs.Cmp.{IsTotalOrder}
use Rattle.std.specs.declared.cmp.Ordering.{Ordering}
use Rattle.std.specs.declared.cmp.Ordering.TheVariants.{Less, Equal, Greater}
use Rattle.std.specs.Ordering.{is_gt, ordering_then, ordering_reverse}
use Rattle.std.proofs.lemmas.Cmp.{upto, nat_cmp_total, int_cmp_total, on_total, then_total, back_total}
use Rattle.std.proofs.lemmas.Map.Lookups.{CmpEqualImpliesEq, exact_unsigned, exact_signed}
use Rattle.std.proofs.lemmas.Bool.{cases_Bool}
use Rattle.path_skew.specs.declared.row.Extreme.{Extreme}
use Rattle.path_skew.specs.Pair.{earlier, earlier_of, earliest, rising, falling, record_cmp}

-- an answer that isn't above, either way round, is a tie
tie : (r s : Ordering) → r ≡ ordering_reverse s → is_gt r ≡ false → is_gt s ≡ false → r ≡ Equal
tie Less Less e a b = cc
tie Less Equal e a b = cc
tie Less Greater e a b = absurd (true≢false b)
tie Equal s e a b = refl
tie Greater s e a b = absurd (true≢false a)

-- both can't be above
apart : (r s : Ordering) → r ≡ ordering_reverse s → is_gt r ≡ true → is_gt s ≡ true → ⊥
apart Greater Less e a b = false≢true b
apart Greater Equal e a b = false≢true b
apart Greater Greater e a b = absurd cc
apart Less s e a b = false≢true a
apart Equal s e a b = false≢true a

module _ (order : Extreme → Extreme → Ordering) (total : IsTotalOrder order) (exact : CmpEqualImpliesEq order) where
  -- the second comes first, or the first does
  second_is : (a b : Extreme) → is_gt (order a b) ≡ true → earlier order a b ≡ b
  second_is a b above = rw above refl

  first_is : (a b : Extreme) → is_gt (order a b) ≡ false → earlier order a b ≡ a
  first_is a b below = rw below refl

  -- which of two comes first doesn't depend on which is asked of which
  earlier-swap : (a b : Extreme) → earlier order a b ≡ earlier order b a
  earlier-swap a b =
      elim (cases_Bool (is_gt (order a b))) as (λ _. earlier order a b ≡ earlier order b a) [
        | inl above ↦ elim (cases_Bool (is_gt (order b a))) as (λ _. earlier order a b ≡ earlier order b a) [
          | inl back ↦ absurd (apart (order a b) (order b a) (total.antisymm a b) above back)
          | inr low ↦ second_is a b above ∙ sym (first_is b a low)
        ]
        | inr below ↦ elim (cases_Bool (is_gt (order b a))) as (λ _. earlier order a b ≡ earlier order b a) [
          | inl back ↦ first_is a b below ∙ sym (second_is b a back)
          | inr low ↦ first_is a b below ∙ exact a b (tie (order a b) (order b a) (total.antisymm a b) below low) ∙ sym (first_is b a low)
        ]
      ]

  -- the first of three
  earlier-three : (a e b : Extreme) → earlier order a (earlier order e b) ≡ earlier order e (earlier order a b)
  earlier-three a e b =
      elim (cases_Bool (is_gt (order e b))) as (λ _. earlier order a (earlier order e b) ≡ earlier order e (earlier order a b)) [
        | inl e_above ↦ elim (cases_Bool (is_gt (order a b))) as (λ _. earlier order a (earlier order e b) ≡ earlier order e (earlier order a b)) [
          | inl a_above ↦ ap (earlier order a) (second_is e b e_above) ∙ second_is a b a_above
              ∙ sym (ap (earlier order e) (second_is a b a_above) ∙ second_is e b e_above)
          | inr a_below ↦ elim (cases_Bool (is_gt (order e a))) as (λ _. earlier order a (earlier order e b) ≡ earlier order e (earlier order a b)) [
            | inl over ↦ ap (earlier order a) (second_is e b e_above) ∙ first_is a b a_below
                ∙ sym (ap (earlier order e) (first_is a b a_below) ∙ second_is e a over)
            | inr under ↦ absurd (true≢false (sym e_above ∙ upto total e a b under a_below))
          ]
        ]
        | inr e_below ↦ elim (cases_Bool (is_gt (order a b))) as (λ _. earlier order a (earlier order e b) ≡ earlier order e (earlier order a b)) [
          | inl a_above ↦ elim (cases_Bool (is_gt (order a e))) as (λ _. earlier order a (earlier order e b) ≡ earlier order e (earlier order a b)) [
            | inl over ↦ ap (earlier order a) (first_is e b e_below) ∙ second_is a e over
                ∙ sym (ap (earlier order e) (second_is a b a_above) ∙ first_is e b e_below)
            | inr under ↦ absurd (true≢false (sym a_above ∙ upto total a e b under e_below))
          ]
          | inr a_below ↦ ap (earlier order a) (first_is e b e_below) ∙ earlier-swap a e ∙ sym (ap (earlier order e) (first_is a b a_below))
        ]
      ]

  earlier_of-swap : (a e : Extreme) (o : Option Extreme) → earlier_of order a (Some (earlier_of order e o)) ≡ earlier_of order e (Some (earlier_of order a o))
  earlier_of-swap a e None = earlier-swap a e
  earlier_of-swap a e (Some b) = earlier-three a e b

  -- one more member, wherever it stands
  pub earliest-insert : (before after : List Extreme) (e : Extreme) → earliest order (before ++ e ∷ after)
      ≡ Some (earlier_of order e (earliest order (before ++ after)))
  earliest-insert [] after e = refl
  earliest-insert (a ∷ before) after e =
      ap (λ o. Some (earlier_of order a o)) (earliest-insert before after e) ∙ ap Some (earlier_of-swap a e (earliest order (before ++ after)))

records_total : IsTotalOrder record_cmp
records_total = then_total (on_total (λ (e : Extreme). e.first_rec) nat_cmp_total) (on_total (λ (e : Extreme). e.second_rec) nat_cmp_total)

pub rising_total : IsTotalOrder rising
rising_total = then_total (on_total (λ (e : Extreme). e.skew) int_cmp_total) records_total

pub falling_total : IsTotalOrder falling
falling_total = then_total (back_total (on_total (λ (e : Extreme). e.skew) int_cmp_total)) records_total

-- a tie of two orders is a tie of both
then_ties : (r s : Ordering) → ordering_then r s ≡ Equal → (r ≡ Equal) × (s ≡ Equal)
then_ties Less s e = absurd cc
then_ties Equal s e = (refl, e)
then_ties Greater s e = absurd cc

-- extremes with the same numbers are the same
same_extreme : (a b : Extreme) → a.skew ≡ b.skew → record_cmp a b ≡ Equal → a ≡ b
same_extreme a b skew tied =
    let both = then_ties _ _ tied in
    let of : ℤ → ℕ → ℕ → Extreme = λ s f g. record { skew = s; first_rec = f; second_rec = g } in
    ap (λ s. of s a.first_rec a.second_rec) skew ∙ ap (λ f. of b.skew f a.second_rec) (exact_unsigned _ _ both.0)
    ∙ ap (of b.skew b.first_rec) (exact_unsigned _ _ both.1)

pub rising_exact : CmpEqualImpliesEq rising
rising_exact a b e = let both = then_ties _ _ e in same_extreme a b (exact_signed _ _ both.0) both.1

pub falling_exact : CmpEqualImpliesEq falling
falling_exact a b e = let both = then_ties _ _ e in same_extreme a b (sym (exact_signed _ _ both.0)) both.1
