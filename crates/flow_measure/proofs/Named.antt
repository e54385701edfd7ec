-- Where the first broken packet stands, with some packets more.
use Rattle.std.proofs.Common.{◌≡◌, ◌≤◌, ◌<◌, ◌+◌, ◌-◌, ◌||◌, ℕ, Bool, true, false, cond, nat_lt, Option, Some, None, inl, inr, refl, ap, ap₂, ◌∙◌, sym, arith}
use Rattle.std.proofs.lemmas.Bool.{cases_lt, cond-true, lt-ltb}
use Rattle.vrx_buffer.specs.declared.held.Held.{Held}
use Rattle.flow_measure.specs.Bins.{is_above}
use Rattle.flow_measure.specs.Fed.{FirstStands, IsLike, StandsAt}
use Rattle.flow_measure.specs.First.{IsFirst}
use Rattle.flow_measure.specs.Kinds.{Packets, breaks, place_below, place_with}
use Rattle.flow_measure.specs.Worked.{place as place_of}
use Rattle.flow_measure.specs.declared.numbers.Place.{Place}
use Rattle.flow_measure.proofs.Measured.{first-once}

-- the place of a packet among so many
below-is : (p : Packets) (count i : ℕ) → i < count → place_below p.rec p.stamp count (Some i) ≡ Some (place_of (p.rec i) (p.stamp i))
below-is p count i few = cond-true (nat_lt i count) (Some (place_of (p.rec i) (p.stamp i))) None (lt-ltb i count few)

-- none of some packets more breaks a model
none-more : (p : Packets) (seen times : ℕ) → ((i : ℕ) → i < seen → breaks p i ≡ false) → ((j : ℕ) → j < times → breaks p (seen + j) ≡ false)
    → (i : ℕ) → i < seen + times → breaks p i ≡ false
none-more p seen times before all i few = elim (cases_lt i seen) as (λ _. breaks p i ≡ false) [
  | inl low ↦ before i low
  | inr high ↦ let e : i ≡ seen + (i - seen) = omega (arith, high) in ap (breaks p) e ∙ all (i - seen) (omega (arith, few, high))
]

-- by what the first of them was
with-first : (p : Packets) (seen times : ℕ) (here : Place) (old new : Option Place) (broken : Bool) (first : Option ℕ)
    → 1 ≤ times
    → IsFirst (breaks p) seen first
    → old ≡ place_below p.rec p.stamp seen first
    → ((j : ℕ) → j < times → breaks p (seen + j) ≡ broken)
    → StandsAt p seen here
    → new ≡ place_with old here broken
    → FirstStands p (seen + times) new
with-first p seen times here old new broken (Some i) some is at all stands e =
    let kept : old ≡ Some (place_of (p.rec i) (p.stamp i)) = at ∙ below-is p seen i is.0 in
    record {
      first = Some i;
      is = (omega (arith, is.0), is.1, is.2);
      place_is = e ∙ ap (λ o. place_with o here broken) kept ∙ sym (below-is p (seen + times) i (omega (arith, is.0)));
    }
with-first p seen times here old new true None some is at all stands e =
    let same : seen ≡ seen + 0 = omega arith in
    let place : here ≡ place_of (p.rec seen) (p.stamp seen) = ap₂ place_of (sym stands.rec_is) (sym stands.stamp_is) in
    record {
      first = Some seen;
      is = (omega (arith, some), ap (breaks p) same ∙ all 0 (omega (arith, some)), is);
      place_is = e ∙ ap (λ o. place_with o here true) at ∙ ap (λ x. Some x) place ∙ sym (below-is p (seen + times) seen (omega (arith, some)));
    }
with-first p seen times here old new false None some is at all stands e = record {
  first = None;
  is = none-more p seen times is all;
  place_is = e ∙ ap (λ o. place_with o here false) at;
}

pub named-more : (p : Packets) (seen times : ℕ) (here : Place) (old new : Option Place) (broken : Bool)
    → 1 ≤ times
    → FirstStands p seen old
    → ((j : ℕ) → j < times → breaks p (seen + j) ≡ broken)
    → StandsAt p seen here
    → new ≡ place_with old here broken
    → FirstStands p (seen + times) new
named-more p seen times here old new broken some h all stands e =
    with-first p seen times here old new broken h.first some h.is h.place_is all stands e

-- there is one such place
pub named-is : (p : Packets) (count : ℕ) (place : Option Place) (named : Option ℕ) → FirstStands p count place → IsFirst (breaks p) count named
    → place ≡ place_below p.rec p.stamp count named
named-is p count place named h is = h.place_is ∙ ap (place_below p.rec p.stamp count) (first-once (breaks p) count h.first named h.is is)

-- whether packets that are all so break a model
pub breaks-like : (c_max full : ℕ) (p : Packets) (i bucket : ℕ) (held : Held) (overfull over broken : Bool)
    → IsLike c_max full p i bucket held
    → overfull ≡ p.overfull i → over ≡ p.over i
    → broken ≡ (overfull || over) || held.late
    → breaks p i ≡ broken
breaks-like c_max full p i bucket held overfull over broken like a b e =
    ap (λ (q : Bool). (q || p.over i) || p.empty i) (sym a)
    ∙ ap (λ (q : Bool). (overfull || q) || p.empty i) (sym b)
    ∙ ap (λ (q : Bool). (overfull || over) || q) like.empty_is
    ∙ sym e
