-- The counts of bins and classes with one number more.
use Rattle.std.proofs.Common.{◌≡◌, ◌<◌, ◌≤◌, ◌+◌, ◌/◌, ◌^◌, ℕ, zero, suc, ℤ, pos, negsuc, Bool, true, false, cond, ◌&&◌, ◌==◌}
use Rattle.std.proofs.Common.{nat_le, nat_lt, List, length, get_or, set, sum, take, max, ap, ◌∙◌, sym, refl, subst, inl, inr, arith}
use Rattle.std.proofs.Math.ListN.{get_or-eq_default}
use Rattle.std.proofs.Math.Nat.{div-mul-le_self, pow-le-pow_right}
use Rattle.std.proofs.lemmas.Bool.{and_parts, cases_Bool, cases_eq, cases_lt, cases_order, cond-false, cond-true, eq-eqb, eqb-true}
use Rattle.std.proofs.lemmas.Bool.{le-leb, le-ltb, leb-true, lt-leb, lt-ltb, ltb-true, ne_eqb}
use Rattle.std.proofs.lemmas.Nat.{le-div, pow_pos}
use Rattle.std.proofs.lemmas.List.{get_or-set_other, get_or-set_same}
use Rattle.flow_measure.specs.Bins.{above_limit, below_zero, bin_width, in_bin, is_above, is_below, is_in_bin}
use Rattle.flow_measure.specs.Classes.{in_class, is_in_class}
use Rattle.flow_measure.specs.Counts.{count_of}
use Rattle.flow_measure.specs.Places.{place_of}
use Rattle.flow_measure.specs.Stands.{Classifies, Counts}
use Rattle.flow_measure.specs.declared.classes.Classes.{Classes}
use Rattle.flow_measure.specs.declared.bins.Bins.{Bins}
use Rattle.flow_measure.specs.declared.bins.Place.{Place}
use Rattle.flow_measure.specs.declared.bins.Place.TheVariants.{Above, Below, Bin}
use Rattle.flow_measure.proofs.Counted.{count-next, count-same, count_of-no, count_of-times, count_of-yes, none-count_of, sum-take}
use Rattle.flow_measure.proofs.Widths.{ceil-some}

-- what the tests say of a number that belongs there
abbrev pub IsTold : (limit : ℕ) → ℤ → Place → Type 0
IsTold limit x Below = (is_below x ≡ true) × (is_above limit x ≡ false) × ((bin : ℕ) → is_in_bin limit bin x ≡ false)
IsTold limit x (Bin here) = (is_below x ≡ false) × (is_above limit x ≡ false) × ((bin : ℕ) → is_in_bin limit bin x ≡ (here == bin))
IsTold limit x Above = (is_below x ≡ false) × (is_above limit x ≡ true) × ((bin : ℕ) → is_in_bin limit bin x ≡ false)

pub told : (limit : ℕ) (x : ℤ) → IsTold limit x (place_of limit x)
told limit (negsuc x) = (refl, refl, λ bin. refl)
told limit (pos x) =
    let there = x / bin_width limit in
    elim (cases_lt limit x) as (λ _. IsTold limit (pos x) (cond (nat_lt limit x) Above (Bin there))) [
      | inl more ↦
          let test : nat_lt limit x ≡ true = lt-ltb limit x more in
          subst (IsTold limit (pos x)) (sym (cond-true (nat_lt limit x) Above (Bin there) test))
          (refl, test, λ bin. ap (λ (c : Bool). c && (there == bin)) (lt-leb x limit more))
      | inr within ↦
          let test : nat_lt limit x ≡ false = le-ltb limit x within in
          subst (IsTold limit (pos x)) (sym (cond-false (nat_lt limit x) Above (Bin there) test))
          (refl, test, λ bin. ap (λ (c : Bool). c && (there == bin)) (le-leb x limit within))
    ]

-- the counts of a list, where its item at one place goes up
pub counts-set : (test : (k : ℕ) → ℕ → Bool) (count here : ℕ) (counts : List ℕ)
    → here < length counts
    → ((k : ℕ) → k < length counts → get_or counts k 0 ≡ count_of (test k) count)
    → test here count ≡ true
    → ((k : ℕ) → (k ≡ here → ⊥) → test k count ≡ false)
    → (k : ℕ) → k < length counts
    → get_or (set counts here (get_or counts here 0 + 1)) k 0 ≡ count_of (test k) (count + 1)
counts-set test count here counts within each passes others k few =
    let new = get_or counts here 0 + 1 in
    elim (cases_eq k here) as (λ _. get_or (set counts here new) k 0 ≡ count_of (test k) (count + 1)) [
      | inl same ↦
          let at_here : get_or (set counts here new) here 0 ≡ count_of (test here) (count + 1) =
          get_or-set_same counts here new 0 within
          ∙ count-next (test here) count (get_or counts here 0) (each here within) passes in
          subst (λ j. get_or (set counts here new) j 0 ≡ count_of (test j) (count + 1)) (sym same) at_here
      | inr other ↦
          get_or-set_other counts here k new 0 other
          ∙ count-same (test k) count (get_or counts k 0) (each k few) (others k other)
    ]

-- a list of counts, where its item at one place goes up so much
pub set-times : (counts : List ℕ) (here k times : ℕ) → here < length counts
    → get_or (set counts here (get_or counts here 0 + times)) k 0 ≡ get_or counts k 0 + cond (here == k) times 0
set-times counts here k times within =
    let new = get_or counts here 0 + times in
    elim (cases_eq here k) as (λ _. get_or (set counts here new) k 0 ≡ get_or counts k 0 + cond (here == k) times 0) [
      | inl same ↦
          let there : get_or (set counts here new) here 0 ≡ get_or counts here 0 + cond (here == here) times 0 =
          get_or-set_same counts here new 0 within ∙ ap (λ t. get_or counts here 0 + t) (sym (cond-true (here == here) times 0 (eq-eqb here here refl))) in
          subst (λ j. get_or (set counts here new) j 0 ≡ get_or counts j 0 + cond (here == j) times 0) same there
      | inr other ↦
          let none : cond {A = ℕ} (here == k) times 0 ≡ 0 = cond-false (here == k) times 0 (ne_eqb here k other) in
          let kept = get_or-set_other counts here k new 0 (λ e. other (sym e)) in
          omega (arith, none, kept)
    ]

-- of a number at a place, which comes so many times, so many belong to a bin, are above the limit, and below 0
abbrev pub times_of : Place → (bin times : ℕ) → ℕ
times_of Below bin times = 0
times_of (Bin here) bin times = cond (here == bin) times 0
times_of Above bin times = 0

abbrev pub times_above : Place → (times : ℕ) → ℕ
times_above Below times = 0
times_above (Bin here) times = 0
times_above Above times = times

abbrev pub times_below : Place → (times : ℕ) → ℕ
times_below Below times = times
times_below (Bin here) times = 0
times_below Above times = 0

-- the tests say so
tests-told : (limit times : ℕ) (x : ℤ) (place : Place) → place ≡ place_of limit x
    → ((bin : ℕ) → times_of place bin times ≡ cond (is_in_bin limit bin x) times 0)
    × (times_above place times ≡ cond (is_above limit x) times 0)
    × (times_below place times ≡ cond (is_below x) times 0)
tests-told limit times x Below e =
    let t : IsTold limit x Below = subst (IsTold limit x) (sym e) (told limit x) in (
      λ bin. sym (cond-false (is_in_bin limit bin x) times 0 (t.2 bin)),
      sym (cond-false (is_above limit x) times 0 t.1),
      sym (cond-true (is_below x) times 0 t.0),
    )
tests-told limit times x (Bin here) e =
    let t : IsTold limit x (Bin here) = subst (IsTold limit x) (sym e) (told limit x) in (
      λ bin. ap (λ (q : Bool). cond q times 0) (sym (t.2 bin)),
      sym (cond-false (is_above limit x) times 0 t.1),
      sym (cond-false (is_below x) times 0 t.0),
    )
tests-told limit times x Above e =
    let t : IsTold limit x Above = subst (IsTold limit x) (sym e) (told limit x) in (
      λ bin. sym (cond-false (is_in_bin limit bin x) times 0 (t.2 bin)),
      sym (cond-true (is_above limit x) times 0 t.1),
      sym (cond-false (is_below x) times 0 t.0),
    )

-- what bins count of a number that comes so many times more
pub record TakesTimes (b c : Bins) (times : ℕ) (place : Place) : Type 0 where
  pub limit : c.limit ≡ b.limit
  pub seen : c.seen ≡ b.seen + times
  pub each : (bin : ℕ) → bin < 64 → get_or c.counts bin 0 ≡ get_or b.counts bin 0 + times_of place bin times
  pub above : c.above ≡ b.above + times_above place times
  pub below : c.below ≡ b.below + times_below place times

pub counts-times : (b c : Bins) (numbers : ℕ → ℤ) (x : ℤ) (times : ℕ) (place : Place)
    → place ≡ place_of b.limit x
    → TakesTimes b c times place
    → ((j : ℕ) → j < times → numbers (b.seen + j) ≡ x)
    → Counts b numbers
    → Counts c numbers
counts-times b c numbers x times place e t same h =
    let limit = b.limit in
    let tests = tests-told limit times x place e in
    let goes = λ (test : ℤ → Bool). count_of-times (λ i. test (numbers i)) b.seen times (test x) (λ j few. ap test (same j few)) in
    record {
      each = λ bin few.
          let all : in_bin limit bin numbers c.seen ≡ in_bin limit bin numbers b.seen + cond (is_in_bin limit bin x) times 0 =
          ap (in_bin limit bin numbers) t.seen ∙ goes (is_in_bin limit bin) in
          let now : get_or c.counts bin 0 ≡ get_or b.counts bin 0 + times_of place bin times = t.each bin few in
          let before : get_or b.counts bin 0 ≡ in_bin limit bin numbers b.seen = h.each bin few in
          let added : times_of place bin times ≡ cond (is_in_bin limit bin x) times 0 = tests.0 bin in
          let there : get_or c.counts bin 0 ≡ in_bin limit bin numbers c.seen = omega (arith, all, now, before, added) in
          there ∙ ap (λ l. in_bin l bin numbers c.seen) (sym t.limit);
      above =
          let all : above_limit limit numbers c.seen ≡ above_limit limit numbers b.seen + cond (is_above limit x) times 0 =
          ap (above_limit limit numbers) t.seen ∙ goes (is_above limit) in
          let there : c.above ≡ above_limit limit numbers c.seen = omega (arith, all, t.above, h.above, tests.1) in
          there ∙ ap (λ l. above_limit l numbers c.seen) (sym t.limit);
      below =
          let all : below_zero numbers c.seen ≡ below_zero numbers b.seen + cond (is_below x) times 0 =
          ap (below_zero numbers) t.seen ∙ goes is_below in
          omega (arith, all, t.below, h.below, tests.2);
    }

-- a number has one class
above-powers : (k c x : ℕ) → k < c → 2 ^ c ≤ x → x < 2 ^ suc k → ⊥
above-powers k c x less low high =
    let p : 2 ^ suc k ≤ 2 ^ c = pow-le-pow_right (omega arith) (omega (arith, less)) in
    omega (arith, p, low, high)

pub class-once : (k c x : ℕ) → is_in_class k x ≡ true → is_in_class c x ≡ true → k ≡ c
class-once zero zero x e f = refl
class-once zero (suc c) x e f =
    let none : x ≡ 0 = eqb-true x 0 e in
    let low : 2 ^ c ≤ x = leb-true (2 ^ c) x (and_parts (nat_le (2 ^ c) x) (nat_lt x (2 ^ suc c)) f).0 in
    absurd (omega (arith, none, low, pow_pos c))
class-once (suc k) zero x e f =
    let none : x ≡ 0 = eqb-true x 0 f in
    let low : 2 ^ k ≤ x = leb-true (2 ^ k) x (and_parts (nat_le (2 ^ k) x) (nat_lt x (2 ^ suc k)) e).0 in
    absurd (omega (arith, none, low, pow_pos k))
class-once (suc k) (suc c) x e f =
    let mine = and_parts (nat_le (2 ^ k) x) (nat_lt x (2 ^ suc k)) e in
    let other = and_parts (nat_le (2 ^ c) x) (nat_lt x (2 ^ suc c)) f in
    let low_k : 2 ^ k ≤ x = leb-true (2 ^ k) x mine.0 in
    let high_k : x < 2 ^ suc k = ltb-true x (2 ^ suc k) mine.1 in
    let low_c : 2 ^ c ≤ x = leb-true (2 ^ c) x other.0 in
    let high_c : x < 2 ^ suc c = ltb-true x (2 ^ suc c) other.1 in
    elim (cases_order k c) as (λ _. suc k ≡ suc c) [
      | inl same ↦ ap suc same
      | inr apart ↦ elim apart as (λ _. suc k ≡ suc c) [
        | inl less ↦ absurd (above-powers k c x less low_c high_k)
        | inr more ↦ absurd (above-powers c k x more low_k high_c)
      ]
    ]

-- a number isn't of any other class
pub class-other : (k c x : ℕ) → is_in_class c x ≡ true → (k ≡ c → ⊥) → is_in_class k x ≡ false
class-other k c x here other = elim (cases_Bool (is_in_class k x)) as (λ _. is_in_class k x ≡ false) [
  | inl passes ↦ absurd (other (class-once k c x passes here))
  | inr fails ↦ fails
]

-- beyond the bin of the limit there is no number
bin-empty : (limit bin : ℕ) (x : ℤ) → limit / bin_width limit < bin → is_in_bin limit bin x ≡ false
bin-empty limit bin (negsuc x) beyond = refl
bin-empty limit bin (pos x) beyond =
    let w = bin_width limit in
    elim (cases_lt limit x) as (λ _. nat_le x limit && (x / w == bin) ≡ false) [
      | inl more ↦ ap (λ (c : Bool). c && (x / w == bin)) (lt-leb x limit more)
      | inr within ↦
          let some : 0 < w = omega (arith, ceil-some (limit + 1) 64 (omega arith) (omega arith)) in
          let rises : x / w ≤ limit / w = le-div (x / w) limit w some (omega (arith, div-mul-le_self x w, within)) in
          ap (λ (c : Bool). c && (x / w == bin)) (le-leb x limit within)
          ∙ ne_eqb (x / w) bin (λ e. omega (arith, e, rises, beyond))
    ]

pub in_bin-empty : (limit bin : ℕ) (numbers : ℕ → ℤ) (count : ℕ) → limit / bin_width limit < bin → in_bin limit bin numbers count ≡ 0
in_bin-empty limit bin numbers count beyond =
    none-count_of (λ i. is_in_bin limit bin (numbers i)) count (λ i few. bin-empty limit bin (numbers i) beyond)

-- so the counts up to that bin are all
pub bins-all : (limit last : ℕ) (numbers : ℕ → ℤ) (count : ℕ) (counts : List ℕ)
    → last ≡ limit / bin_width limit
    → length counts ≡ 64
    → ((bin : ℕ) → bin < 64 → get_or counts bin 0 ≡ in_bin limit bin numbers count)
    → sum (take (last + 1) counts) ≡ sum counts
bins-all limit last numbers count counts e long each = sum-take counts (last + 1) (λ k more.
    elim (cases_lt k 64) as (λ _. get_or counts k 0 ≡ 0) [
      | inl few ↦ each k few ∙ in_bin-empty limit k numbers count (omega (arith, e, more))
      | inr past ↦ get_or-eq_default counts 0 (omega (arith, long, past))
    ])

-- the counts up to the last class that has a number are all
pub classes-all : (last : ℕ) (numbers : ℕ → ℕ) (count : ℕ) (counts : List ℕ)
    → length counts ≡ 64
    → ((class : ℕ) → class < 64 → get_or counts class 0 ≡ in_class class numbers count)
    → ((class : ℕ) → last ≤ class → in_class class numbers count ≡ 0)
    → sum (take last counts) ≡ sum counts
classes-all last numbers count counts long each rest = sum-take counts last (λ k more.
    elim (cases_lt k 64) as (λ _. get_or counts k 0 ≡ 0) [
      | inl few ↦ each k few ∙ rest k more
      | inr past ↦ get_or-eq_default counts 0 (omega (arith, long, past))
    ])

-- the classes with one number more
pub classified-more : (before after : Classes) (numbers : ℕ → ℕ) (here number : ℕ)
    → length before.counts ≡ 64
    → here < 64
    → is_in_class here number ≡ true
    → numbers before.seen ≡ number
    → after.counts ≡ set before.counts here (get_or before.counts here 0 + 1)
    → after.length ≡ max before.length (here + 1)
    → after.seen ≡ before.seen + 1
    → Classifies before numbers
    → Classifies after numbers
classified-more before after numbers here number long few own e ec el es h =
    let test = λ (k i : ℕ). is_in_class k (numbers i) in
    let passes : test here before.seen ≡ true = ap (is_in_class here) e ∙ own in
    let others : (k : ℕ) → (k ≡ here → ⊥) → test k before.seen ≡ false =
    λ k other. ap (is_in_class k) e ∙ class-other k here number own other in
    record {
      each = λ k inside.
          ap (λ l. get_or l k 0) ec
          ∙ counts-set test before.seen here before.counts (omega (arith, few, long))
          (λ j room. h.each j (omega (arith, room, long))) passes others k (omega (arith, inside, long))
          ∙ sym (ap (count_of (test k)) es);
      rest = λ k past.
          let none = h.rest k (omega (arith, past, el)) in
          let other : k ≡ here → ⊥ = λ same. omega (arith, same, past, el) in
          ap (count_of (test k)) es ∙ count_of-no (test k) before.seen (others k other) ∙ none;
      ends = λ last is. elim (cases_eq last here) as (λ _. 0 < in_class last numbers after.seen) [
        | inl same ↦
            let counted = count_of-yes (test here) before.seen passes in
            let there = ap (λ k. in_class k numbers after.seen) same in
            omega (arith, counted, there, ap (count_of (test here)) es)
        | inr other ↦
            let some = h.ends last (omega (arith, is, el, other)) in
            let kept = count_of-no (test last) before.seen (others last other) in
            omega (arith, some, kept, ap (count_of (test last)) es)
      ];
    }
