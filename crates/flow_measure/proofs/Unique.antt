-- Numbers have one summary and one list of columns, in which no peak is hidden.
use Rattle.std.proofs.Common.{◌≡◌, ◌<◌, ◌≤◌, ◌+◌, ◌*◌, ◌/◌, ◌%◌, ℕ, ℤ, pos, ◌≤ℤ◌, List, length, Option, inl, inr, ap, ◌∙◌, sym, refl, arith}
use Rattle.std.proofs.Math.Nat.{mul-le-mul_right}
use Rattle.std.proofs.lemmas.Bool.{cases_lt, cases_order}
use Rattle.std.proofs.lemmas.Grind.{div_ceil_times}
use Rattle.std.proofs.lemmas.Int.{ints}
use Rattle.std.proofs.lemmas.List.{ext_get_or}
use Rattle.std.proofs.lemmas.Nat.{div-add-mod', div-mul-add}
use Rattle.std.specs.Int.{div_ceil}
use Rattle.flow_measure.specs.Columns.{AreColumns, AreCurve, AreExtremes, column_at, columns_of, greatest_at, least_at, places_in, width_of}
use Rattle.flow_measure.specs.Slope.{IsSlope, slope_of}
use Rattle.flow_measure.specs.Summary.{IsGreatest, IsLeast, IsSummary}
use Rattle.flow_measure.specs.Worked.{column, summary}
use Rattle.flow_measure.specs.declared.columns.Extremes.{Extremes}
use Rattle.flow_measure.specs.declared.columns.slope.Slope.{Slope}
use Rattle.flow_measure.specs.declared.summary.Summary.{Summary}
use Rattle.flow_measure.proofs.Bounds.{AreExtremes-one}
use Rattle.flow_measure.proofs.Widths.{ceil-room, width-fits, width-some, width_of-is}

-- there is one least number, and one greatest
pub least-once : (numbers : ℕ → ℤ) (places : ℕ → Type 0) (x y : ℤ) → IsLeast numbers places x → IsLeast numbers places y → x ≡ y
least-once numbers places x y h k =
    omega (arith, ints, h.least k.reached.0 k.reached.1, k.reached.2, k.least h.reached.0 h.reached.1, h.reached.2)

pub greatest-once : (numbers : ℕ → ℤ) (places : ℕ → Type 0) (x y : ℤ) → IsGreatest numbers places x → IsGreatest numbers places y → x ≡ y
greatest-once numbers places x y h k =
    omega (arith, ints, h.greatest k.reached.0 k.reached.1, k.reached.2, k.greatest h.reached.0 h.reached.1, h.reached.2)

-- extremes are one pair
pub extremes-once : (numbers : ℕ → ℤ) (places : ℕ → Type 0) (e f : Extremes) → AreExtremes numbers places e → AreExtremes numbers places f → e ≡ f
extremes-once numbers places e f h k =
    ap (λ x. column x e.greatest) (least-once numbers places e.least f.least h.least k.least)
    ∙ ap (column f.least) (greatest-once numbers places e.greatest f.greatest h.greatest k.greatest)

-- there is one summary
pub summary-once : (numbers : ℕ → ℤ) (count : ℕ) (s t : Summary) → IsSummary numbers count s → IsSummary numbers count t → s ≡ t
summary-once numbers count s t h k =
    ap (λ x. summary x s.greatest s.sum s.first s.last) (least-once numbers (λ i. i < count) s.least t.least h.least k.least)
    ∙ ap (λ x. summary t.least x s.sum s.first s.last)
    (greatest-once numbers (λ i. i < count) s.greatest t.greatest h.greatest k.greatest)
    ∙ ap (λ x. summary t.least t.greatest x s.first s.last) (h.sum_is ∙ sym k.sum_is)
    ∙ ap (λ x. summary t.least t.greatest t.sum x s.last) (h.first ∙ sym k.first)
    ∙ ap (λ x. summary t.least t.greatest t.sum t.first x) (h.last ∙ sym k.last)

-- no list of columns is longer than another
length-most : (column_of : ℕ → ℕ) (numbers : ℕ → ℤ) (count : ℕ) (columns other : List Extremes)
    → AreColumns column_of numbers count columns
    → AreColumns column_of numbers count other
    → length other ≤ length columns
length-most column_of numbers count columns other h k =
    elim (cases_lt (length columns) (length other)) as (λ _. length other ≤ length columns) [
      | inl longer ↦
          let r = (k.each (length columns) longer).least.reached in
          absurd (omega (arith, h.within r.0 (r.1).0, (r.1).1))
      | inr shorter ↦ shorter
    ]

-- there is one list of columns
pub columns-once : (column_of : ℕ → ℕ) (numbers : ℕ → ℤ) (count : ℕ) (columns other : List Extremes)
    → AreColumns column_of numbers count columns
    → AreColumns column_of numbers count other
    → columns ≡ other
columns-once column_of numbers count columns other h k =
    let long : length columns ≡ length other =
    omega (arith, length-most column_of numbers count columns other h k, length-most column_of numbers count other columns k h) in
    ext_get_or (column (pos 0) (pos 0)) columns other long
    (λ c few. extremes-once numbers (places_in column_of count c) (column_at columns c) (column_at other c)
    (h.each c few) (k.each c (omega (arith, few, long))))

-- the least of all columns
pub least-shown : (column_of : ℕ → ℕ) (numbers : ℕ → ℤ) (count : ℕ) (columns : List Extremes) (s : Summary)
    → AreColumns column_of numbers count columns
    → IsSummary numbers count s
    → IsLeast (least_at columns) (λ c. c < length columns) s.least
least-shown column_of numbers count columns s h k =
    let r = k.least.reached in
    let c = column_of r.0 in
    let few = h.within r.0 r.1 in
    let e = (h.each c few).least in
    let under : (d : ℕ) → d < length columns → s.least ≤ℤ least_at columns d =
    λ d in_list. let f = (h.each d in_list).least.reached in omega (arith, ints, k.least.least f.0 (f.1).0, f.2) in
    record {
      least = under;
      reached = (c, few, omega (arith, ints, e.least r.0 (r.1, refl), r.2, under c few));
    }

-- the greatest of all columns
pub greatest-shown : (column_of : ℕ → ℕ) (numbers : ℕ → ℤ) (count : ℕ) (columns : List Extremes) (s : Summary)
    → AreColumns column_of numbers count columns
    → IsSummary numbers count s
    → IsGreatest (greatest_at columns) (λ c. c < length columns) s.greatest
greatest-shown column_of numbers count columns s h k =
    let r = k.greatest.reached in
    let c = column_of r.0 in
    let few = h.within r.0 r.1 in
    let e = (h.each c few).greatest in
    let over : (d : ℕ) → d < length columns → greatest_at columns d ≤ℤ s.greatest =
    λ d in_list. let f = (h.each d in_list).greatest.reached in omega (arith, ints, k.greatest.greatest f.0 (f.1).0, f.2) in
    record {
      greatest = over;
      reached = (c, few, omega (arith, ints, e.greatest r.0 (r.1, refl), r.2, over c few));
    }

-- where all numbers fit, each place is a column
div-one : (i : ℕ) → i / 1 ≡ i
div-one i = omega (arith, div-add-mod' i 1)

fits-at : (count most i : ℕ) → i < count → count ≤ most → i / width_of count most ≡ i
fits-at count most i few fits =
    ap (λ w. i / w) (width-fits count most fits) ∙ div-one i

-- so there are as many columns as numbers
pub fits-length : (most : ℕ) (numbers : ℕ → ℤ) (count : ℕ) (columns : List Extremes) → count ≤ most
    → AreCurve most numbers count columns → length columns ≡ count
fits-length most numbers count columns fits h = elim (cases_order (length columns) count) as (λ _. length columns ≡ count) [
  | inl same ↦ same
  | inr apart ↦ elim apart as (λ _. length columns ≡ count) [
    | inl shorter ↦ absurd (omega (arith, h.within (length columns) shorter, fits-at count most (length columns) shorter fits))
    | inr longer ↦
        let r = (h.each count longer).least.reached in
        absurd (omega (arith, fits-at count most r.0 (r.1).0 fits, (r.1).0, (r.1).1))
  ]
]

-- and each column is its number
pub fits-each : (most : ℕ) (numbers : ℕ → ℤ) (count i : ℕ) (columns : List Extremes) → count ≤ most → i < count
    → AreCurve most numbers count columns → column_at columns i ≡ column (numbers i) (numbers i)
fits-each most numbers count i columns fits few h =
    let long = fits-length most numbers count columns fits h in
    let places = places_in (λ k. k / width_of count most) count i in
    let mine = h.each i (omega (arith, few, long)) in
    let alone : (k : ℕ) → places k → k ≡ i = λ k p. sym (fits-at count most k p.0 fits) ∙ p.1 in
    extremes-once numbers places (column_at columns i) (column (numbers i) (numbers i)) mine
    (AreExtremes-one numbers places i (column (numbers i) (numbers i)) (few, fits-at count most i few fits) alone refl refl)

-- ---- how many columns a curve has

-- columns of a width hold all numbers, and each has one
held : (w : ℕ) (numbers : ℕ → ℤ) (count : ℕ) (columns : List Extremes) → 1 ≤ w → AreColumns (λ i. i / w) numbers count columns
    → length columns ≡ div_ceil count w
held w numbers count columns some h =
    let long = length columns in
    let fits = ceil-room count w some in
    let tight = (div_ceil_times count w (omega (arith, some))).1 in
    elim (cases_order long (div_ceil count w)) as (λ _. long ≡ div_ceil count w) [
      | inl same ↦ same
      | inr apart ↦ elim apart as (λ _. long ≡ div_ceil count w) [
        | inl shorter ↦
            let p : (long + 1) * w ≤ div_ceil count w * w = mul-le-mul_right w (omega (arith, shorter)) in
            let inside : long * w < count = omega (arith, p, tight) in
            let at : long * w / w ≡ long = omega (arith, whole long w some) in
            absurd (omega (arith, h.within (long * w) inside, at))
        | inr longer ↦
            let r = (h.each (div_ceil count w) longer).least.reached in
            let p : div_ceil count w * w ≤ r.0 / w * w = mul-le-mul_right w (omega (arith, (r.1).1)) in
            absurd (omega (arith, p, div-add-mod' r.0 w, fits, (r.1).0))
      ]
    ]
  where
    whole : (k w : ℕ) → 1 ≤ w → k * w / w ≡ k
    whole k w some = let e : k * w ≡ k * w + 0 = omega arith in ap (λ x. x / w) e ∙ div-mul-add k w 0 (omega (arith, some))

pub curve-length : (most : ℕ) (numbers : ℕ → ℤ) (count : ℕ) (columns : List Extremes) → 1 ≤ most → AreCurve most numbers count columns
    → length columns ≡ columns_of count most
curve-length most numbers count columns some h = held (width_of count most) numbers count columns (width-some count most) h

pub curve-short : (most : ℕ) (numbers : ℕ → ℤ) (count : ℕ) (columns : List Extremes) → 1 ≤ most → AreCurve most numbers count columns
    → length columns ≤ most
curve-short most numbers count columns some h =
    omega (arith, curve-length most numbers count columns some h, (width_of-is count most some).fits)

-- ---- slopes

-- numbers have one slope
pub slope-once : (most : ℕ) (numbers : ℕ → ℤ) (count : ℕ) (s other : Option Slope) → IsSlope most numbers count s
    → IsSlope most numbers count other → s ≡ other
slope-once most numbers count s other h k =
    h.is
    ∙ ap (slope_of count most) (columns-once (λ i. i / width_of count most) numbers count h.columns k.columns h.are k.are)
    ∙ sym k.is
