-- The first of a list in an order is one of it, and none comes before.
use Rattle.std.proofs.Common.{◌≡◌, ◌≤◌, ◌≤ℤ◌, ◌<◌, ◌<ℤ◌, ℕ, ℤ, suc, List, [], ◌∷◌, length, Option, Some, None, true, false, refl, sym, ap, subst, ◌∙◌, arith}
use Rattle.std.proofs.Common.{inl, inr}
use mathlib.Core.Bool.{true≢false, false≢true}
use Rattle.std.specs.Cmp.{IsTotalOrder}
use Rattle.std.specs.List.{All, Contains}
use Rattle.std.specs.declared.cmp.Ordering.{Ordering}
use Rattle.std.specs.declared.cmp.Ordering.TheVariants.{Less, Equal, Greater}
use Rattle.std.specs.Ordering.{is_gt, MatchOrdering, nat_cmp, int_cmp, ordering_then, ordering_reverse}
use Rattle.std.proofs.lemmas.Cmp.{upto, tied_itself, ranked, int_ranked, int_cmp_total}
use Rattle.std.proofs.lemmas.Bool.{cases_Bool}
use Rattle.std.proofs.lemmas.Int.{ints}
use Rattle.std.proofs.lemmas.List.Elements.{All-nil, All-cons, All-weaker}
use Rattle.path_skew.specs.declared.row.Extreme.{Extreme}
use Rattle.path_skew.specs.Pair.{earlier, earlier_of, earliest, rising, falling}
use Rattle.path_skew.specs.Extremes.{IsLeast, IsGreatest}
use Rattle.path_skew.proofs.Orders.{rising_total, falling_total}

-- it is one of the list, and none comes before
pub record IsFirst (order : Extreme → Extreme → Ordering) (es : List Extreme) (e : Extreme) : Type 0 where
  pub member : Contains es e
  pub first : All (λ x. is_gt (order e x) ≡ false) es

-- what a list contains its tail may
Contains-behind : (y : Extreme) (es : List Extreme) (x : Extreme) → Contains es x → Contains (y ∷ es) x
Contains-behind y es x c = (suc c.0, omega (arith, c.1), c.2)

-- an order's two answers to the same question
reversed : (r s : Ordering) → r ≡ ordering_reverse s → is_gt s ≡ true → is_gt r ≡ false
reversed Less s e t = refl
reversed Equal s e t = refl
reversed Greater Less e t = absurd (false≢true t)
reversed Greater Equal e t = absurd (false≢true t)
reversed Greater Greater e t = absurd cc

module _ (order : Extreme → Extreme → Ordering) (total : IsTotalOrder order) where
  not_before_itself : (e : Extreme) → is_gt (order e e) ≡ false
  not_before_itself e = rw (tied_itself total e) refl

  one-first : (e : Extreme) (es : List Extreme) → (o : Option Extreme) → o ≡ earliest order es → (o ≡ None → es ≡ [])
      → ((b : Extreme) → o ≡ Some b → IsFirst order es b) → IsFirst order (e ∷ es) (earlier_of order e o)
  one-first e es None is empty first =
      let gone = empty refl in
      record {
        member = (0, omega arith, refl);
        first = All-cons (λ x. is_gt (order e x) ≡ false) e es (not_before_itself e)
            (subst (All (λ x. is_gt (order e x) ≡ false)) (sym gone) (All-nil (λ x. is_gt (order e x) ≡ false)));
      }
  one-first e es (Some b) is empty first =
      let was = first b refl in
      elim (cases_Bool (is_gt (order e b))) as (λ _. IsFirst order (e ∷ es) (earlier order e b)) [
        | inl above ↦ rw above record {
          member = Contains-behind e es b was.member;
          first = All-cons (λ x. is_gt (order b x) ≡ false) e es (reversed (order b e) (order e b) (total.antisymm b e) above) was.first;
        }
        | inr below ↦ rw below record {
          member = (0, omega arith, refl);
          first =
              All-cons (λ x. is_gt (order e x) ≡ false) e es (not_before_itself e)
              (All-weaker (λ x. is_gt (order b x) ≡ false) (λ x. is_gt (order e x) ≡ false) (λ x h. upto total e b x below h) es was.first);
        }
      ]

  earliest-none : (es : List Extreme) → earliest order es ≡ None → es ≡ []
  earliest-none [] e = refl
  earliest-none (x ∷ es) e = absurd cc

  pub earliest-first : (es : List Extreme) (b : Extreme) → earliest order es ≡ Some b → IsFirst order es b
  earliest-first [] b e = absurd cc
  earliest-first (x ∷ es) b e =
      let head = one-first x es (earliest order es) refl (earliest-none es) (earliest-first es) in
      let same : earlier_of order x (earliest order es) ≡ b = cc in
      subst (IsFirst order (x ∷ es)) same head

  pub no-earliest : (es : List Extreme) → earliest order es ≡ None → length es ≡ 0
  no-earliest es e = ap length (earliest-none es e)

-- what an answer of two orders says
then-says : (r s : Ordering) → is_gt (ordering_then r s) ≡ false → (is_gt r ≡ false) × (r ≡ Equal → is_gt s ≡ false)
then-says Less s h = (refl, λ e. absurd cc)
then-says Equal s h = (refl, λ e. h)
then-says Greater s h = absurd (true≢false h)

int_upto : (a b : ℤ) → is_gt (int_cmp a b) ≡ false → a ≤ℤ b
int_upto a b h = by (int_cmp a b) (int_ranked a b (int_cmp a b) refl) h
  where
    by : (r : Ordering) → MatchOrdering r (a <ℤ b) (a ≡ b) (b <ℤ a) → is_gt r ≡ false → a ≤ℤ b
    by Less lt g = omega (arith, ints, lt)
    by Equal same g = omega (arith, ints, same)
    by Greater gt g = absurd (true≢false g)

nat_upto : (a b : ℕ) → is_gt (nat_cmp a b) ≡ false → a ≤ b
nat_upto a b h = by (nat_cmp a b) (ranked a b (nat_cmp a b) refl) h
  where
    by : (r : Ordering) → MatchOrdering r (a < b) (a ≡ b) (b < a) → is_gt r ≡ false → a ≤ b
    by Less lt g = omega (arith, lt)
    by Equal same g = omega (arith, same)
    by Greater gt g = absurd (true≢false g)

-- of two equal skews
int_tie : (a b : ℤ) → a ≡ b → int_cmp a b ≡ Equal
int_tie a b same = ap (int_cmp a) (sym same) ∙ tied_itself int_cmp_total a

-- the first in rising order is the least
pub least-is : (es : List Extreme) (e : Extreme) → earliest rising es ≡ Some e → IsLeast es e
least-is es e is =
    let first = earliest-first rising rising_total es e is in
    record {
      member = first.member;
      least = All-weaker (λ x. is_gt (rising e x) ≡ false) (λ x. e.skew ≤ℤ x.skew) (λ x h. int_upto e.skew x.skew (then-says _ _ h).0) es first.first;
      earliest = All-weaker (λ x. is_gt (rising e x) ≡ false) (λ x. x.skew ≡ e.skew → e.first_rec ≤ x.first_rec)
          (λ x h same. nat_upto e.first_rec x.first_rec (then-says _ _ ((then-says _ _ h).1 (int_tie e.skew x.skew (sym same)))).0) es first.first;
    }

-- the first in falling order is the greatest
pub greatest-is : (es : List Extreme) (e : Extreme) → earliest falling es ≡ Some e → IsGreatest es e
greatest-is es e is =
    let first = earliest-first falling falling_total es e is in
    record {
      member = first.member;
      greatest = All-weaker (λ x. is_gt (falling e x) ≡ false) (λ x. x.skew ≤ℤ e.skew) (λ x h. int_upto x.skew e.skew (then-says _ _ h).0) es first.first;
      earliest = All-weaker (λ x. is_gt (falling e x) ≡ false) (λ x. x.skew ≡ e.skew → e.first_rec ≤ x.first_rec)
          (λ x h same. nat_upto e.first_rec x.first_rec (then-says _ _ ((then-says _ _ h).1 (int_tie x.skew e.skew same))).0) es first.first;
    }
