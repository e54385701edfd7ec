-- The columns of one number more.
use Rattle.std.proofs.Common.{◌≡◌, ◌<◌, ◌≤◌, ◌+◌, ◌/◌, ◌*◌, ◌-◌, ℕ, ℤ, pos, List, length, set, take, max}
use Rattle.std.proofs.Common.{◌⊎◌, inl, inr, ap, ◌∙◌, sym, subst, refl, arith}
use Rattle.std.proofs.Math.Nat.{div-div-eq-div-mul, div-le_of_le-mul, mul-le-mul_right}
use Rattle.std.proofs.lemmas.Bool.{cases_eq, cases_lt}
use Rattle.std.proofs.lemmas.List.{get_or-set_other, get_or-set_same, get_or-take, length-take-le}
use Rattle.std.proofs.lemmas.Nat.{div-mul-add, div_below}
use Rattle.flow_measure.specs.Columns.{AreColumns, AreExtremes, column_at, places_in}
use Rattle.flow_measure.specs.Extremes.{joined, only}
use Rattle.flow_measure.specs.declared.columns.Extremes.{Extremes}
use Rattle.flow_measure.proofs.Bounds.{AreExtremes-joined, AreExtremes-one, AreExtremes-same}
use Rattle.flow_measure.proofs.Summarized.{last-split}

-- what a column has with the next number: that one alone where it is the column's first
pub record Widens (begun column : ℕ) (number : ℤ) (old new : Extremes) : Type 0 where
  pub fresh : begun ≤ column → new ≡ only number
  pub kept : column < begun → new ≡ joined old (only number)

-- what is joined, of extremes that are the same
pub joined-as : (new was now old last : Extremes) → new ≡ joined was now → old ≡ was → now ≡ last → new ≡ joined old last
joined-as new was now old last is same same_last = is ∙ ap (λ x. joined x now) (sym same) ∙ ap (joined old) same_last

-- the extremes of one place
alone : (numbers : ℕ → ℤ) (places : ℕ → Type 0) (i : ℕ) → places i → ((j : ℕ) → places j → j ≡ i) → AreExtremes numbers places (only (numbers i))
alone numbers places i here only_here = AreExtremes-one numbers places i (only (numbers i)) here only_here refl refl

-- the extremes of the column to which the next number belongs
pub column-here : (column_of : ℕ → ℕ) (numbers : ℕ → ℤ) (count begun column : ℕ) (old new : Extremes)
    → column_of count ≡ column
    → ((i : ℕ) → i < count → column_of i < begun)
    → (column < begun → AreExtremes numbers (places_in column_of count column) old)
    → Widens begun column (numbers count) old new
    → AreExtremes numbers (places_in column_of (count + 1) column) new
column-here column_of numbers count begun column old new here within was w =
    let after = places_in column_of (count + 1) column in
    let now : after count = (omega arith, here) in
    elim (cases_lt column begun) as (λ _. AreExtremes numbers after new) [
      | inl begun_before ↦
          subst (AreExtremes numbers after) (sym (w.kept begun_before))
          (AreExtremes-joined numbers (places_in column_of count column) (λ i. i ≡ count) after old (only (numbers count))
          (was begun_before) (alone numbers (λ i. i ≡ count) count refl (λ i same. same))
          (λ i p. (omega (arith, p.0), p.1))
          (λ i same. subst after (sym same) now)
          (λ i p. elim (last-split count i p.0) as (λ _. places_in column_of count column i ⊎ (i ≡ count)) [
            | inl few ↦ inl (few, p.1)
            | inr same ↦ inr same
          ]))
      | inr fresh ↦
          subst (AreExtremes numbers after) (sym (w.fresh fresh))
          (alone numbers after count now (λ i p. elim (last-split count i p.0) as (λ _. i ≡ count) [
            | inl few ↦ absurd (omega (arith, within i few, p.1, fresh))
            | inr same ↦ same
          ]))
    ]

-- the extremes of every other one
pub column-there : (column_of : ℕ → ℕ) (numbers : ℕ → ℤ) (count column k : ℕ) (e : Extremes)
    → column_of count ≡ column
    → (k ≡ column → ⊥)
    → AreExtremes numbers (places_in column_of count k) e
    → AreExtremes numbers (places_in column_of (count + 1) k) e
column-there column_of numbers count column k e here other h =
    AreExtremes-same numbers (places_in column_of count k) (places_in column_of (count + 1) k) e
    (λ i p. (omega (arith, p.0), p.1))
    (λ i p. elim (last-split count i p.0) as (λ _. places_in column_of count k i) [
      | inl before ↦ (before, p.1)
      | inr last ↦ absurd (other (sym p.1 ∙ ap column_of last ∙ here))
    ])
    h

-- the extremes of every column
pub columns-more : (column_of : ℕ → ℕ) (numbers : ℕ → ℤ) (count begun column : ℕ) (columns : List Extremes) (new : Extremes)
    → column_of count ≡ column
    → column ≤ begun
    → column < length columns
    → ((i : ℕ) → i < count → column_of i < begun)
    → ((k : ℕ) → k < begun → AreExtremes numbers (places_in column_of count k) (column_at columns k))
    → Widens begun column (numbers count) (column_at columns column) new
    → (k : ℕ) → k < max begun (column + 1)
    → AreExtremes numbers (places_in column_of (count + 1) k) (column_at (set columns column new) k)
columns-more column_of numbers count begun column columns new here next room within each w k few =
    let zero : Extremes = only (pos 0) in
    let is = λ (c : ℕ) (e : Extremes). AreExtremes numbers (places_in column_of (count + 1) c) e in
    elim (cases_eq k column) as (λ _. is k (column_at (set columns column new) k)) [
      | inl same ↦
          subst (λ c. is c (column_at (set columns column new) c)) (sym same)
          (subst (is column) (sym (get_or-set_same columns column new zero room))
          (column-here column_of numbers count begun column (column_at columns column) new here within (λ some. each column some) w))
      | inr other ↦
          subst (is k) (sym (get_or-set_other columns column k new zero other))
          (column-there column_of numbers count column k (column_at columns k) here other (each k (omega (arith, few, next, other))))
    ]

-- each number has a column
pub within-more : (column_of : ℕ → ℕ) (count begun column : ℕ)
    → column_of count ≡ column
    → ((i : ℕ) → i < count → column_of i < begun)
    → (i : ℕ) → i < count + 1 → column_of i < max begun (column + 1)
within-more column_of count begun column here within i few =
    elim (last-split count i few) as (λ _. column_of i < max begun (column + 1)) [
      | inl before ↦ omega (arith, within i before)
      | inr last ↦ omega (arith, ap column_of last, here)
    ]

-- the columns of a picture, where those of the meter's list that have a number are taken
pub columns-shown : (column_of : ℕ → ℕ) (numbers : ℕ → ℤ) (count begun : ℕ) (columns : List Extremes)
    → begun ≤ length columns
    → ((i : ℕ) → i < count → column_of i < begun)
    → ((k : ℕ) → k < begun → AreExtremes numbers (places_in column_of count k) (column_at columns k))
    → AreColumns column_of numbers count (take begun columns)
columns-shown column_of numbers count begun columns most within each =
    let long : length (take begun columns) ≡ begun = length-take-le begun columns most in
    let zero : Extremes = only (pos 0) in
    record {
      within = λ i few. omega (arith, within i few, long);
      each = λ k few.
          let inside : k < begun = omega (arith, few, long) in
          let there : column_at (take begun columns) k ≡ column_at columns k = get_or-take begun columns k zero inside in
          subst (AreExtremes numbers (places_in column_of count k)) (sym there) (each k inside);
    }

-- ---- columns of twice the width

-- the column of twice the width to which a place belongs
pub half-column : (i w : ℕ) → i / (2 * w) ≡ i / w / 2
half-column i w = let e : w * 2 ≡ 2 * w = omega arith in sym (div-div-eq-div-mul i w 2 ∙ ap (λ x. i / x) e)

-- neighbours
pub pair-joined : (numbers : ℕ → ℤ) (count w k : ℕ) (a b : Extremes)
    → AreExtremes numbers (places_in (λ i. i / w) count (2 * k)) a
    → AreExtremes numbers (places_in (λ i. i / w) count (2 * k + 1)) b
    → AreExtremes numbers (places_in (λ i. i / (2 * w)) count k) (joined a b)
pair-joined numbers count w k a b h g =
    let first = places_in (λ i. i / w) count (2 * k) in
    let second = places_in (λ i. i / w) count (2 * k + 1) in
    AreExtremes-joined numbers first second (places_in (λ i. i / (2 * w)) count k) a b h g
    (λ i p. (p.0, omega (arith, half-column i w, p.1)))
    (λ i p. (p.0, omega (arith, half-column i w, p.1)))
    (λ i p. elim (cases_eq (i / w) (2 * k)) as (λ _. first i ⊎ second i) [
      | inl even ↦ inl (p.0, even)
      | inr odd ↦ inr (p.0, omega (arith, half-column i w, p.1, odd))
    ])

-- one that has no neighbour
pub alone-joined : (numbers : ℕ → ℤ) (count w k : ℕ) (a : Extremes) → count ≤ (2 * k + 1) * w → 1 ≤ w
    → AreExtremes numbers (places_in (λ i. i / w) count (2 * k)) a
    → AreExtremes numbers (places_in (λ i. i / (2 * w)) count k) a
alone-joined numbers count w k a few some h =
    AreExtremes-same numbers (places_in (λ i. i / w) count (2 * k)) (places_in (λ i. i / (2 * w)) count k) a
    (λ i p. (p.0, omega (arith, half-column i w, p.1)))
    (λ i p.
    let below = column-below i w (2 * k + 1) some (omega (arith, p.0, few)) in
    (p.0, omega (arith, half-column i w, p.1, below)))
    h
  where
    column-below : (i w c : ℕ) → 1 ≤ w → i < c * w → i / w < c
    column-below i w c some few = elim (cases_lt (i / w) c) as (λ _. i / w < c) [
      | inl below ↦ below
      | inr past ↦
          let p : c * w ≤ i / w * w = mul-le-mul_right w past in
          absurd (omega (arith, p, few, some))
    ]

-- all of them, of full columns, with the next number in the last one
pub columns-doubled : (numbers : ℕ → ℤ) (most w : ℕ) (columns pairs : List Extremes) (new : Extremes)
    → 1 ≤ w
    → length pairs ≡ most
    → 1 ≤ most
    → ((k : ℕ) → k < most → AreExtremes numbers (places_in (λ i. i / w) (most * w) k) (column_at columns k))
    → ((k : ℕ) → 2 * k + 1 < most → column_at pairs k ≡ joined (column_at columns (2 * k)) (column_at columns (2 * k + 1)))
    → (2 * (most / 2) + 1 ≡ most → new ≡ joined (column_at columns (2 * (most / 2))) (only (numbers (most * w))))
    → (2 * (most / 2) ≡ most → new ≡ only (numbers (most * w)))
    → (k : ℕ) → k < most / 2 + 1
    → AreExtremes numbers (places_in (λ i. i / (2 * w)) (most * w + 1) k) (column_at (set pairs (most / 2) new) k)
columns-doubled numbers most w columns pairs new some long some_most each joins odd even k few =
    let p = most / 2 in
    let count = most * w in
    let column_of : ℕ → ℕ = λ i. i / (2 * w) in
    let zero : Extremes = only (pos 0) in
    let is = λ (c : ℕ) (e : Extremes). AreExtremes numbers (places_in column_of (count + 1) c) e in
    let there : count / w ≡ most = full-columns most w some in
    let here : column_of count ≡ p = omega (arith, half-column count w, there) in
    let below : (i : ℕ) → i < count → column_of i ≤ (most - 1) / 2 =
    λ i early. omega (arith, half-column i w, div_below i w most (omega (arith, some)) early) in
    elim (cases_eq k p) as (λ _. is k (column_at (set pairs p new) k)) [
      | inl same ↦
          subst (λ c. is c (column_at (set pairs p new) c)) (sym same)
          (subst (is p) (sym (get_or-set_same pairs p new zero (omega (arith, long, some_most))))
          (elim (cases_eq (2 * p) most) as (λ _. is p new) [
            | inl whole ↦
                column-here column_of numbers count p p zero new here (λ i early. omega (arith, below i early, whole, some_most))
                (λ before. absurd (omega (arith, before)))
                (record { fresh = λ _. even whole; kept = λ before. absurd (omega (arith, before)) })
            | inr rest ↦
                let one : 2 * p + 1 ≡ most = omega (arith, rest) in
                let fits : count ≤ (2 * p + 1) * w = omega (arith, ap (λ x. x * w) one) in
                column-here column_of numbers count (p + 1) p (column_at columns (2 * p)) new here (λ i early. omega (arith, below i early))
                (λ _. alone-joined numbers count w p (column_at columns (2 * p)) fits some (each (2 * p) (omega (arith, one))))
                (record { fresh = λ before. absurd (omega (arith, before)); kept = λ _. odd one })
          ]))
      | inr other ↦
          let in_pair : 2 * k + 1 < most = omega (arith, few, other) in
          subst (is k) (sym (get_or-set_other pairs p k new zero other ∙ joins k in_pair))
          (column-there column_of numbers count p k (joined (column_at columns (2 * k)) (column_at columns (2 * k + 1))) here other
          (pair-joined numbers count w k (column_at columns (2 * k)) (column_at columns (2 * k + 1))
          (each (2 * k) (omega (arith, in_pair))) (each (2 * k + 1) in_pair)))
    ]
  where
    full-columns : (most w : ℕ) → 1 ≤ w → most * w / w ≡ most
    full-columns most w some = let e : most * w ≡ most * w + 0 = omega arith in ap (λ x. x / w) e ∙ div-mul-add most w 0 (omega (arith, some))
