-- A curve with one number more.
use Rattle.std.proofs.Common.{◌≡◌, ◌<◌, ◌≤◌, ◌+◌, ◌-◌, ◌/◌, ◌*◌, ℕ, ℤ, pos, List, length, map, set, take, max}
use Rattle.std.proofs.Common.{Option, None, if◌then◌else◌, inl, inr, ap, ◌∙◌, sym, subst, arith}
use Rattle.std.proofs.Math.Nat.{lt-div-mul-add, mul-le-mul_right}
use Rattle.std.proofs.lemmas.Bool.{cases_eq, cases_lt, le-ltb, lt-ltb}
use Rattle.std.proofs.lemmas.List.{get_or-map, get_or-set_other, get_or-set_same, get_or-take, length-map, map-set}
use Rattle.std.proofs.lemmas.Nat.{div-mul-add, div_below}
use Rattle.std.specs.List.{slice_index_or}
use Rattle.flow_measure.specs.Columns.{AreColumns, AreCurve, AreExtremes, column_at, places_in, width_of}
use Rattle.flow_measure.specs.Extremes.{extremes_of, joined, only}
use Rattle.flow_measure.specs.Slope.{IsSlope, last_full, slope_between}
use Rattle.flow_measure.specs.Stands.{DrawsCurve, curve_columns}
use Rattle.flow_measure.specs.declared.columns.Column.{Column}
use Rattle.flow_measure.specs.declared.columns.curve.Curve.{Curve}
use Rattle.flow_measure.specs.declared.columns.Extremes.{Extremes}
use Rattle.flow_measure.specs.declared.columns.slope.Slope.{Slope}
use Rattle.flow_measure.proofs.Bounds.{AreExtremes-same}
use Rattle.flow_measure.proofs.Drawn.{Widens, columns-doubled, columns-more, columns-shown}

-- as many columns as there may be
pub columns-long : {N : Type 0} (value : N → ℤ) (c : Curve N) → length (curve_columns value c) ≡ c.most
columns-long value c = omega (arith, length-map c.columns.items (extremes_of value), c.columns.ok.0, c.columns_most)

-- what is read of one
pub column-read : {N : Type 0} (value : N → ℤ) (c : Curve N) (k : ℕ) (x : Column N) → k < c.most → x ≡ slice_index_or c.columns.items k x
    → column_at (curve_columns value c) k ≡ extremes_of value x
column-read value c k x few read =
    get_or-map (extremes_of value) c.columns.items k x (only (pos 0)) (omega (arith, few, c.columns.ok.0, c.columns_most)) ∙ ap (extremes_of value) (sym read)

-- each number has a column
pub number-within : (seen room begun w i : ℕ) → seen + room ≡ begun * w → 1 ≤ w → i < seen → i / w < begun
number-within seen room begun w i filled some few = div_below i w begun (omega (arith, some)) (omega (arith, filled, few))

-- a curve of which one column has the next number, and no other one changes
pub curve-more : {N : Type 0} (value : N → ℤ) (b c : Curve N) (numbers : ℕ → ℤ) (k : ℕ) (e : Column N)
    → c.width ≡ b.width
    → c.seen ≡ b.seen + 1
    → c.begun ≡ max b.begun (k + 1)
    → c.columns.items ≡ set b.columns.items k e
    → b.seen / b.width ≡ k
    → k ≤ b.begun
    → k < b.most
    → Widens b.begun k (numbers b.seen) (column_at (curve_columns value b) k) (extremes_of value e)
    → DrawsCurve value b numbers
    → DrawsCurve value c numbers
curve-more value b c numbers k e ew es eb ec here next inside w h =
    let column_of : ℕ → ℕ = λ i. i / b.width in
    let columns = curve_columns value b in
    let changed : curve_columns value c ≡ set columns k (extremes_of value e) =
    ap (map (extremes_of value)) ec ∙ map-set (extremes_of value) b.columns.items k e in
    let all = columns-more column_of numbers b.seen b.begun k columns (extremes_of value e) here next (omega (arith, columns-long value b, inside))
    (λ i few. number-within b.seen b.room b.begun b.width i b.filled b.width_some few) h.each w in
    record {
      each = λ j few.
          subst (λ n. AreExtremes numbers (places_in (λ i. i / c.width) n j) (column_at (curve_columns value c) j)) (sym es)
          (subst (λ u. AreExtremes numbers (places_in (λ i. i / u) (b.seen + 1) j) (column_at (curve_columns value c) j)) (sym ew)
          (subst (λ l. AreExtremes numbers (places_in column_of (b.seen + 1) j) (column_at l j)) (sym changed)
          (all j (omega (arith, few, eb)))));
    }

pub begun-some : (seen room begun w : ℕ) → seen + room ≡ begun * w → 0 < room → 0 < begun
begun-some seen room begun w filled some = elim (cases_lt 0 begun) as (λ _. 0 < begun) [
  | inl more ↦ more
  | inr none ↦ let p : begun * w ≡ 0 * w = ap (λ x. x * w) (omega (arith, none)) in absurd (omega (arith, filled, some, p))
]

-- the column of the next number: the last one where it has room, else the next one
pub last-column : (seen room begun w : ℕ) → seen + room ≡ begun * w → 0 < room → room < w → seen / w ≡ begun - 1
last-column seen room begun w filled some few =
    let begun_some : 0 < begun = begun-some seen room begun w filled some in
    let split : seen ≡ (begun - 1) * w + (w - room) =
    let e : begun ≡ (begun - 1) + 1 = omega (arith, begun_some) in
    let p : begun * w ≡ (begun - 1) * w + w = omega (arith, ap (λ x. x * w) e) in
    omega (arith, p, filled, few) in
    ap (λ x. x / w) split ∙ div-mul-add (begun - 1) w (w - room) (omega (arith, some, few))

pub next-column : (seen room begun w : ℕ) → seen + room ≡ begun * w → room ≡ 0 → 1 ≤ w → seen / w ≡ begun
next-column seen room begun w filled none some =
    let split : seen ≡ begun * w + 0 = omega (arith, filled, none) in
    ap (λ x. x / w) split ∙ div-mul-add begun w 0 (omega (arith, some))

-- ---- neighbours that are joined

-- one pair more
pub pairs-more : {N : Type 0} (value : N → ℤ) (items : List (Column N)) (columns : List Extremes) (p : ℕ) (x : Column N)
    → p < length items
    → extremes_of value x ≡ joined (column_at columns (2 * p)) (column_at columns (2 * p + 1))
    → ((k : ℕ) → k < p → column_at (map (extremes_of value) items) k ≡ joined (column_at columns (2 * k)) (column_at columns (2 * k + 1)))
    → (k : ℕ) → k < p + 1
    → column_at (map (extremes_of value) (set items p x)) k ≡ joined (column_at columns (2 * k)) (column_at columns (2 * k + 1))
pairs-more value items columns p x inside here before k few =
    let zero : Extremes = only (pos 0) in
    let shows = map (extremes_of value) items in
    let changed : map (extremes_of value) (set items p x) ≡ set shows p (extremes_of value x) = map-set (extremes_of value) items p x in
    let long : p < length shows = omega (arith, inside, length-map items (extremes_of value)) in
    ap (λ l. column_at l k) changed
    ∙ elim (cases_eq k p) as (λ _. column_at (set shows p (extremes_of value x)) k ≡ joined (column_at columns (2 * k)) (column_at columns (2 * k + 1))) [
      | inl same ↦
          subst (λ j. column_at (set shows p (extremes_of value x)) j ≡ joined (column_at columns (2 * j)) (column_at columns (2 * j + 1))) (sym same)
          (get_or-set_same shows p (extremes_of value x) zero long ∙ here)
      | inr other ↦ get_or-set_other shows p k (extremes_of value x) zero other ∙ before k (omega (arith, few, other))
    ]

-- the columns behind it
pub pairs-rest : {N : Type 0} (value : N → ℤ) (items : List (Column N)) (columns : List Extremes) (p : ℕ) (x : Column N)
    → ((k : ℕ) → p ≤ k → column_at (map (extremes_of value) items) k ≡ column_at columns k)
    → (k : ℕ) → p + 1 ≤ k
    → column_at (map (extremes_of value) (set items p x)) k ≡ column_at columns k
pairs-rest value items columns p x before k past =
    let other : k ≡ p → ⊥ = λ same. omega (arith, same, past) in
    ap (λ l. column_at l k) (map-set (extremes_of value) items p x)
    ∙ get_or-set_other (map (extremes_of value) items) p k (extremes_of value x) (only (pos 0)) other
    ∙ before k (omega (arith, past))

-- a curve of twice the width: `mid` has the neighbours joined, and the last column is the one behind them
pub curve-doubled : {N : Type 0} (value : N → ℤ) (b mid c : Curve N) (numbers : ℕ → ℤ) (e : Column N)
    → b.seen ≡ b.most * b.width
    → b.begun ≡ b.most
    → mid.most ≡ b.most
    → c.width ≡ 2 * b.width
    → c.seen ≡ b.seen + 1
    → c.begun ≡ b.most / 2 + 1
    → c.columns.items ≡ set mid.columns.items (b.most / 2) e
    → ((k : ℕ) → 2 * k + 1 < b.most → column_at (curve_columns value mid) k
    ≡ joined (column_at (curve_columns value b) (2 * k)) (column_at (curve_columns value b) (2 * k + 1)))
    → (2 * (b.most / 2) + 1 ≡ b.most → extremes_of value e ≡ joined (column_at (curve_columns value b) (2 * (b.most / 2))) (only (numbers b.seen)))
    → (2 * (b.most / 2) ≡ b.most → extremes_of value e ≡ only (numbers b.seen))
    → DrawsCurve value b numbers
    → DrawsCurve value c numbers
curve-doubled value b mid c numbers e full all em ew es eb ec joins odd even h =
    let p = b.most / 2 in
    let columns = curve_columns value b in
    let changed : curve_columns value c ≡ set (curve_columns value mid) p (extremes_of value e) =
    ap (map (extremes_of value)) ec ∙ map-set (extremes_of value) mid.columns.items p e in
    let each : (k : ℕ) → k < b.most → AreExtremes numbers (places_in (λ i. i / b.width) (b.most * b.width) k) (column_at columns k) =
    λ k few. subst (λ n. AreExtremes numbers (places_in (λ i. i / b.width) n k) (column_at columns k)) full (h.each k (omega (arith, few, all))) in
    let drawn = columns-doubled numbers b.most b.width columns (curve_columns value mid) (extremes_of value e) b.width_some
    (omega (arith, columns-long value mid, em)) b.most_some each joins
    (λ one. odd one ∙ ap (λ n. joined (column_at columns (2 * p)) (only (numbers n))) full)
    (λ one. even one ∙ ap (λ n. only (numbers n)) full) in
    let count : c.seen ≡ b.most * b.width + 1 = omega (arith, es, full) in
    record {
      each = λ k few.
          subst (λ n. AreExtremes numbers (places_in (λ i. i / c.width) n k) (column_at (curve_columns value c) k)) (sym count)
          (subst (λ u. AreExtremes numbers (places_in (λ i. i / u) (b.most * b.width + 1) k) (column_at (curve_columns value c) k)) (sym ew)
          (subst (λ l. AreExtremes numbers (places_in (λ i. i / (2 * b.width)) (b.most * b.width + 1) k) (column_at l k)) (sym changed)
          (drawn k (omega (arith, few, eb)))));
    }

-- the curve of all numbers
pub curve-drawn : {N : Type 0} (value : N → ℤ) (c : Curve N) (numbers : ℕ → ℤ) → DrawsCurve value c numbers
    → AreCurve c.most numbers c.seen (take c.begun (curve_columns value c))
curve-drawn value c numbers h =
    subst (λ w. AreColumns (λ i. i / w) numbers c.seen (take c.begun (curve_columns value c))) c.width_is
    (columns-shown (λ i. i / c.width) numbers c.seen c.begun (curve_columns value c) (omega (arith, columns-long value c, c.begun_most))
    (λ i few. number-within c.seen c.room c.begun c.width i c.filled c.width_some few) h.each)

-- ---- what is kept of a curve

-- all places of a full column were fed
full-places : (seen room begun w k i : ℕ) → seen + room ≡ begun * w → room < w → k + 1 ≤ begun - 1 → i / w ≡ k → i < seen
full-places seen room begun w k i filled few full here =
    let some : 0 < w = omega (arith, few) in
    let next = lt-div-mul-add {a = i} some in
    let same : i / w * w ≡ k * w = ap (λ x. x * w) here in
    let p : (k + 1) * w ≤ (begun - 1) * w = mul-le-mul_right w full in
    let split : begun * w ≡ (begun - 1) * w + w = omega (arith, ap (λ x. x * w) (back begun (omega (arith, full)))) in
    omega (arith, next, same, p, split, filled, few)
  where
    back : (begun : ℕ) → 1 ≤ begun → begun ≡ (begun - 1) + 1
    back begun more = omega (arith, more)

-- a curve that took over what another one has
pub curve-kept : {N : Type 0} (value : N → ℤ) (old other new : Curve N) (numbers : ℕ → ℤ) (from : ℕ)
    → new.width ≡ other.width
    → new.seen ≡ other.seen
    → new.begun ≡ other.begun
    → (old.width ≡ other.width → from ≡ old.begun - 1)
    → ((old.width ≡ other.width → ⊥) → from ≡ 0)
    → ((k : ℕ) → k < from → column_at (curve_columns value new) k ≡ column_at (curve_columns value old) k)
    → ((k : ℕ) → from ≤ k → k < other.begun → column_at (curve_columns value new) k ≡ column_at (curve_columns value other) k)
    → DrawsCurve value old numbers
    → old.seen ≤ other.seen
    → DrawsCurve value other numbers
    → DrawsCurve value new numbers
curve-kept value old other new numbers from ew es eb same_width doubled kept copied h more g =
    let places = λ (k : ℕ). places_in (λ i. i / other.width) other.seen k in
    let is : (k : ℕ) → k < other.begun → AreExtremes numbers (places k) (column_at (curve_columns value new) k) =
    λ k few. elim (cases_lt k from) as (λ _. AreExtremes numbers (places k) (column_at (curve_columns value new) k)) [
      | inl early ↦
          subst (AreExtremes numbers (places k)) (sym (kept k early))
          (elim (cases_eq old.width other.width) as (λ _. AreExtremes numbers (places k) (column_at (curve_columns value old) k)) [
            | inl same ↦
                let full : k + 1 ≤ old.begun - 1 = omega (arith, early, same_width same) in
                AreExtremes-same numbers (places_in (λ i. i / old.width) old.seen k) (places k) (column_at (curve_columns value old) k)
                (λ i p. (omega (arith, p.0, more), ap (λ w. i / w) (sym same) ∙ p.1))
                (λ i p.
                let here : i / old.width ≡ k = ap (λ w. i / w) same ∙ p.1 in
                (full-places old.seen old.room old.begun old.width k i old.filled old.room_few full here, here))
                (h.each k (omega (arith, full)))
            | inr other_width ↦ absurd (omega (arith, early, doubled other_width))
          ])
      | inr late ↦ subst (AreExtremes numbers (places k)) (sym (copied k late few)) (g.each k few)
    ] in
    record {
      each = λ k few.
          subst (λ n. AreExtremes numbers (places_in (λ i. i / new.width) n k) (column_at (curve_columns value new) k)) (sym es)
          (subst (λ w. AreExtremes numbers (places_in (λ i. i / w) other.seen k) (column_at (curve_columns value new) k)) (sym ew)
          (is k (omega (arith, few, eb))));
    }

-- one column more
pub copied-more : {N : Type 0} (value : N → ℤ) (items : List (Column N)) (columns : List Extremes) (from p : ℕ) (x : Column N)
    → p < length items
    → extremes_of value x ≡ column_at columns p
    → ((k : ℕ) → from ≤ k → k < p → column_at (map (extremes_of value) items) k ≡ column_at columns k)
    → (k : ℕ) → from ≤ k → k < p + 1
    → column_at (map (extremes_of value) (set items p x)) k ≡ column_at columns k
copied-more value items columns from p x inside here before k past few =
    let zero : Extremes = only (pos 0) in
    let shows = map (extremes_of value) items in
    let long : p < length shows = omega (arith, inside, length-map items (extremes_of value)) in
    ap (λ l. column_at l k) (map-set (extremes_of value) items p x)
    ∙ elim (cases_eq k p) as (λ _. column_at (set shows p (extremes_of value x)) k ≡ column_at columns k) [
      | inl same ↦
          subst (λ j. column_at (set shows p (extremes_of value x)) j ≡ column_at columns j) (sym same)
          (get_or-set_same shows p (extremes_of value x) zero long ∙ here)
      | inr other ↦ get_or-set_other shows p k (extremes_of value x) zero other ∙ before k past (omega (arith, few, other))
    ]

-- the columns before it
pub kept-more : {N : Type 0} (value : N → ℤ) (items : List (Column N)) (columns : List Extremes) (from p : ℕ) (x : Column N)
    → from ≤ p
    → ((k : ℕ) → k < from → column_at (map (extremes_of value) items) k ≡ column_at columns k)
    → (k : ℕ) → k < from
    → column_at (map (extremes_of value) (set items p x)) k ≡ column_at columns k
kept-more value items columns from p x past before k few =
    let other : k ≡ p → ⊥ = λ same. omega (arith, same, past, few) in
    ap (λ l. column_at l k) (map-set (extremes_of value) items p x)
    ∙ get_or-set_other (map (extremes_of value) items) p k (extremes_of value x) (only (pos 0)) other
    ∙ before k few

-- ---- the slope of a curve

-- a column that has a number is among those that are told
column-told : {N : Type 0} (value : N → ℤ) (c : Curve N) (k : ℕ) (x : Column N) → k < c.begun → x ≡ slice_index_or c.columns.items k x
    → extremes_of value x ≡ column_at (take c.begun (curve_columns value c)) k
column-told value c k x few read =
    sym (get_or-take c.begun (curve_columns value c) k (only (pos 0)) few ∙ column-read value c k x (omega (arith, few, c.begun_most)) read)

-- of enough numbers the first and the last full column tell it
pub slope-told : {N : Type 0} (value : N → ℤ) (c : Curve N) (numbers : ℕ → ℤ) (first last : Column N) (s : Option Slope) (at : ℕ)
    → c.most ≤ c.seen
    → at + 1 ≡ c.seen / c.width
    → at < c.begun
    → first ≡ slice_index_or c.columns.items 0 first
    → last ≡ slice_index_or c.columns.items at last
    → s ≡ slope_between (extremes_of value first) (extremes_of value last) (at * c.width)
    → DrawsCurve value c numbers
    → IsSlope c.most numbers c.seen s
slope-told value c numbers first last s at enough full few first_read last_read is h =
    let columns = take c.begun (curve_columns value c) in
    let w = width_of c.seen c.most in
    let first_is = column-told value c 0 first (omega (arith, few)) first_read in
    let last_is = column-told value c at last few last_read in
    let number : at ≡ c.seen / w - 1 = omega (arith, full, ap (λ x. c.seen / x) c.width_is) in
    let told : Option Slope = slope_between (column_at columns 0) (column_at columns (last_full c.seen c.most)) (last_full c.seen c.most * w) in
    record {
      columns = columns;
      are = curve-drawn value c numbers h;
      is = is
          ∙ ap (λ e. slope_between e (extremes_of value last) (at * c.width)) first_is
          ∙ ap (λ e. slope_between (column_at columns 0) e (at * c.width)) last_is
          ∙ ap (λ x. slope_between (column_at columns 0) (column_at columns at) (at * x)) c.width_is
          ∙ ap (λ k. slope_between (column_at columns 0) (column_at columns k) (k * w)) number
          ∙ sym (ap (λ b. if b then None else told) (le-ltb c.seen c.most enough));
    }

-- of fewer none is told
pub slope-none : {N : Type 0} (value : N → ℤ) (c : Curve N) (numbers : ℕ → ℤ) → c.seen < c.most → DrawsCurve value c numbers
    → IsSlope c.most numbers c.seen None
slope-none value c numbers few h =
    let columns = take c.begun (curve_columns value c) in
    let told : Option Slope =
    slope_between (column_at columns 0) (column_at columns (last_full c.seen c.most)) (last_full c.seen c.most * width_of c.seen c.most) in
    record {
      columns = columns;
      are = curve-drawn value c numbers h;
      is = sym (ap (λ b. if b then None else told) (lt-ltb c.seen c.most few));
    }
