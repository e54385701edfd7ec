-- The place in the capture of the first packet that passes a test, with one packet more.
use Rattle.std.proofs.Common.{◌≡◌, ◌<◌, ◌+◌, ℕ, Bool, true, false, nat_lt, Option, Some, None, inl, inr, ap, ap₂, ◌∙◌, sym, arith}
use Rattle.std.proofs.lemmas.Bool.{cases_eq, cond-true, lt-ltb}
use Rattle.flow_measure.specs.First.{IsFirst}
use Rattle.flow_measure.specs.Kinds.{place_below, place_with}
use Rattle.flow_measure.specs.Worked.{place as place_of}
use Rattle.flow_measure.specs.declared.numbers.Place.{Place}

-- `place` is that of the first of `count` packets that passes the test
pub record Placed (test : ℕ → Bool) (rec stamp : ℕ → ℕ) (count : ℕ) (place : Option Place) : Type 0 where
  pub first : Option ℕ
  pub is : IsFirst test count first
  pub place_is : place ≡ place_below rec stamp count first

-- the place of a packet among so many
below-is : (rec stamp : ℕ → ℕ) (count i : ℕ) → i < count → place_below rec stamp count (Some i) ≡ Some (place_of (rec i) (stamp i))
below-is rec stamp count i few = cond-true (nat_lt i count) (Some (place_of (rec i) (stamp i))) None (lt-ltb i count few)

-- by what the first packet was
pub place-more : (test : ℕ → Bool) (rec stamp : ℕ → ℕ) (seen : ℕ) (here : Place) (old new : Option Place) (passes : Bool) (first : Option ℕ)
    → IsFirst test seen first
    → old ≡ place_below rec stamp seen first
    → test seen ≡ passes
    → rec seen ≡ here.«record» → stamp seen ≡ here.stamp
    → new ≡ place_with old here passes
    → Placed test rec stamp (seen + 1) new
place-more test rec stamp seen here old new passes (Some i) is at test_is rec_is stamp_is e =
    let kept : old ≡ Some (place_of (rec i) (stamp i)) = at ∙ below-is rec stamp seen i is.0 in
    record {
      first = Some i;
      is = (omega (arith, is.0), is.1, is.2);
      place_is = e ∙ ap (λ o. place_with o here passes) kept ∙ sym (below-is rec stamp (seen + 1) i (omega (arith, is.0)));
    }
place-more test rec stamp seen here old new true None is at test_is rec_is stamp_is e =
    let place : here ≡ place_of (rec seen) (stamp seen) = ap₂ place_of (sym rec_is) (sym stamp_is) in
    record {
      first = Some seen;
      is = (omega arith, test_is, is);
      place_is = e ∙ ap (λ o. place_with o here true) at ∙ ap (λ x. Some x) place ∙ sym (below-is rec stamp (seen + 1) seen (omega arith));
    }
place-more test rec stamp seen here old new false None is at test_is rec_is stamp_is e = record {
  first = None;
  is = λ i few. elim (cases_eq i seen) as (λ _. test i ≡ false) [
    | inl same ↦ ap test same ∙ test_is
    | inr other ↦ is i (omega (arith, few, other))
  ];
  place_is = e ∙ ap (λ o. place_with o here false) at;
}
