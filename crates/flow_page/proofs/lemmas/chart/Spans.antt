-- The axis of a curve reaches over all its columns and lines.
use Rattle.std.proofs.Common.{◌≡◌, ◌<◌, ◌≤◌, ◌-◌, ◌*◌, ◌%◌, ◌^◌, ℕ, zero, suc, ℤ, pos, negsuc, ◌≤ℤ◌, ◌+ℤ◌, ◌-ℤ◌, unsigned_abs, List, [], ◌∷◌, length}
use Rattle.std.proofs.Common.{refl, sym, ap, subst, arith}
use Rattle.std.proofs.lemmas.Grind.{div_ceil_times}
use Rattle.std.proofs.lemmas.Int.{ints}
use Rattle.std.specs.Int.{div_ceil, int_max, int_rem_euclid}
use Rattle.std.specs.Prelude.{neg_ℤ}
use Rattle.flow_measure.specs.Columns.{column_at}
use Rattle.flow_measure.specs.declared.columns.Extremes.{Extremes}
use Rattle.flow_page.specs.chart.Axes.{axis_of, low_at, round_up, step_of, steps_at}
use Rattle.flow_page.specs.chart.Charts.{IsOn, axis_over, bounded, curve_axis, over_columns, over_lines, wider}
use Rattle.flow_page.specs.chart.Marks.{high}
use Rattle.flow_page.specs.declared.chart.lines.Limit.{Limit}
use Rattle.flow_page.proofs.lemmas.chart.Reaches.{round_reaches, steps_reach}

-- a remainder is below its divisor
rem_below : (z : ℤ) (n : ℕ) → 1 ≤ n → (m : ℕ) × (m < n) × (int_rem_euclid z (pos n) ≡ pos m)
rem_below (pos a) n some = (a % n, omega arith, refl)
rem_below (negsuc a) n some = (n - 1 - a % n, omega arith, refl)

-- the low end is less than a step below the least number
low_near : (least : ℤ) (step : ℕ) → 1 ≤ step → (m : ℕ) × (m < step) × (low_at least step ≡ least -ℤ pos m)
unfolding low_at
low_near least step some = let r = rem_below least step some in (r.0, r.1, ap (λ (z : ℤ). least -ℤ z) r.2)

some_step : (wanted : ℕ) → wanted ≤ 2 ^ 60 → 1 ≤ round_up wanted
unfolding round_up
some_step zero few = let e : round_up 0 ≡ 1 = refl in omega (arith, e)
some_step (suc n) few = omega (arith, round_reaches (suc n) few)

-- six steps reach
six_reach : (far : ℕ) → far ≤ 2 ^ 62 → (div_ceil far 6 ≤ 2 ^ 60) × (far ≤ 6 * round_up (div_ceil far 6))
six_reach far few =
    let bounds = div_ceil_times far 6 (omega arith) in
    let small : div_ceil far 6 ≤ 2 ^ 60 = omega (arith, bounds.1) in
    (small, omega (arith, bounds.0, round_reaches (div_ceil far 6) small))

far_few : (least greatest : ℤ) → neg_ℤ (pos (2 ^ 61)) ≤ℤ least → least ≤ℤ greatest → greatest ≤ℤ pos (2 ^ 61)
    → unsigned_abs (greatest -ℤ least) ≤ 2 ^ 62
far_few least greatest down order up = grind (arith, ints)

seven_near : (least greatest : ℤ) (m step : ℕ) → m < step → unsigned_abs (greatest -ℤ least) ≤ 6 * step
    → unsigned_abs (greatest -ℤ (least -ℤ pos m)) ≤ 7 * step
seven_near least greatest m step below reach = grind (arith, ints)

less : (z : ℤ) (m : ℕ) → (z -ℤ pos m) ≤ℤ z
less z m = grind (arith, ints)

up_to : (low x : ℤ) (p : ℕ) → unsigned_abs (x -ℤ low) ≤ p → x ≤ℤ (low +ℤ pos p)
up_to low x p within = grind (arith, ints)

-- an axis reaches from its least to its greatest number
reaches_down : (least greatest : ℤ) → neg_ℤ (pos (2 ^ 61)) ≤ℤ least → least ≤ℤ greatest → greatest ≤ℤ pos (2 ^ 61)
    → (axis_of least greatest).low ≤ℤ least
unfolding step_of
reaches_down least greatest down order up =
    let six = six_reach (unsigned_abs (greatest -ℤ least)) (far_few least greatest down order up) in
    let near = low_near least (step_of least greatest) (some_step (div_ceil (unsigned_abs (greatest -ℤ least)) 6) six.0) in
    subst (λ (z : ℤ). z ≤ℤ least) (sym near.2) (less least near.0)

reaches_up : (least greatest : ℤ) → neg_ℤ (pos (2 ^ 61)) ≤ℤ least → least ≤ℤ greatest → greatest ≤ℤ pos (2 ^ 61)
    → greatest ≤ℤ high (axis_of least greatest)
unfolding step_of steps_at
reaches_up least greatest down order up =
    let step : ℕ = step_of least greatest in
    let six = six_reach (unsigned_abs (greatest -ℤ least)) (far_few least greatest down order up) in
    let some : 1 ≤ step = some_step (div_ceil (unsigned_abs (greatest -ℤ least)) 6) six.0 in
    let near = low_near least step some in
    let seven : unsigned_abs (greatest -ℤ low_at least step) ≤ 7 * step =
    subst (λ (z : ℤ). unsigned_abs (greatest -ℤ z) ≤ 7 * step) (sym near.2) (seven_near least greatest near.0 step near.1 six.1) in
    up_to (low_at least step) greatest _ (steps_reach (unsigned_abs (greatest -ℤ low_at least step)) step some seven)

-- what is bounded is within the ends, in the same order
bounded_down : (z : ℤ) → neg_ℤ (pos (2 ^ 61)) ≤ℤ bounded z
bounded_down z = grind (arith, ints)

bounded_up : (z : ℤ) → bounded z ≤ℤ pos (2 ^ 61)
bounded_up z = grind (arith, ints)

bounded_rises : (x y : ℤ) → x ≤ℤ y → bounded x ≤ℤ bounded y
bounded_rises x y up = grind (arith, ints)

max_above : (x y : ℤ) → x ≤ℤ y → int_max y x ≡ y
max_above x y up = grind (arith, ints)

-- what is from the least to the greatest number of a pair is on its axis
on_axis : (e : Extremes) (x : ℤ) → e.least ≤ℤ x → x ≤ℤ e.greatest → IsOn (axis_over e) x
on_axis e x down up =
    let low : ℤ = bounded e.least in
    let top : ℤ = int_max (bounded e.greatest) low in
    let same : top ≡ bounded e.greatest =
    max_above low (bounded e.greatest) (bounded_rises e.least e.greatest (omega (arith, ints, down, up))) in
    let order : low ≤ℤ top = subst (λ (z : ℤ). low ≤ℤ z) (sym same) (bounded_rises e.least e.greatest (omega (arith, ints, down, up))) in
    let most : top ≤ℤ pos (2 ^ 61) = subst (λ (z : ℤ). z ≤ℤ pos (2 ^ 61)) (sym same) (bounded_up e.greatest) in
    let here : bounded x ≤ℤ top = subst (λ (z : ℤ). bounded x ≤ℤ z) (sym same) (bounded_rises x e.greatest up) in
    let below : (axis_of low top).low ≤ℤ low = reaches_down low top (bounded_down e.least) order most in
    let above : top ≤ℤ high (axis_of low top) = reaches_up low top (bounded_down e.least) order most in
    let start : low ≤ℤ bounded x = bounded_rises e.least x down in
    (omega (arith, ints, below, start), omega (arith, ints, here, above))

-- a pair over columns and lines is no narrower, and reaches over each
Within : Extremes → Extremes → Type 0
Within x e = (e.least ≤ℤ x.least) × (x.greatest ≤ℤ e.greatest)

wider_first : (e x : Extremes) → Within e (wider e x)
unfolding Within
wider_first e x = (grind (arith, ints), grind (arith, ints))

wider_second : (e x : Extremes) → Within x (wider e x)
unfolding Within
wider_second e x = (grind (arith, ints), grind (arith, ints))

within_more : (a b d : Extremes) → Within a b → Within b d → Within a d
unfolding Within
within_more a b d h k = (omega (arith, ints, h.0, k.0), omega (arith, ints, h.1, k.1))

within_same : (a : Extremes) → Within a a
unfolding Within
within_same a = (omega (arith, ints), omega (arith, ints))

columns_keep : (e : Extremes) (xs : List Extremes) → Within e (over_columns e xs)
columns_keep e [] = within_same e
columns_keep e (x ∷ xs) = within_more e (wider e x) (over_columns (wider e x) xs) (wider_first e x) (columns_keep (wider e x) xs)

columns_each : (e : Extremes) (xs : List Extremes) (c : ℕ) → c < length xs → Within (column_at xs c) (over_columns e xs)
columns_each e [] c few = absurd (omega (arith, few))
columns_each e (x ∷ xs) zero few =
    within_more x (wider e x) (over_columns (wider e x) xs) (wider_second e x) (columns_keep (wider e x) xs)
columns_each e (x ∷ xs) (suc c) few = columns_each (wider e x) xs c (omega (arith, few))

lines_keep : (e : Extremes) (ls : List Limit) → Within e (over_lines e ls)
lines_keep e [] = within_same e
lines_keep e (l ∷ ls) =
    let x : Extremes = record { least = l.at; greatest = l.at } in
    within_more e (wider e x) (over_lines (wider e x) ls) (wider_first e x) (lines_keep (wider e x) ls)

-- each number between the ends of a column is on the axis
pub on_curve_axis : (lines : List Limit) (columns : List Extremes) (c : ℕ) (x : ℤ) → c < length columns
    → (column_at columns c).least ≤ℤ x → x ≤ℤ (column_at columns c).greatest → IsOn (curve_axis lines columns) x
unfolding Within
on_curve_axis lines columns c x few down up =
    let first : Extremes = column_at columns 0 in
    let over : Extremes = over_columns first columns in
    let all : Extremes = over_lines over lines in
    let w = within_more (column_at columns c) over all (columns_each first columns c few) (lines_keep over lines) in
    on_axis all x (omega (arith, ints, w.0, down)) (omega (arith, ints, w.1, up))
