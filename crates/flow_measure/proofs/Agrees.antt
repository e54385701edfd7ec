-- A meter knows no more than what it was fed: it stands for all numbers that are the same there.
use Rattle.std.proofs.Common.{◌≡◌, ◌<◌, ◌+◌, ◌-◌, ◌*◌, ◌/◌, ℕ, zero, suc, ℤ, ◌+ℤ◌, Bool, ◌||◌, ap, ◌∙◌, sym, refl, arith}
use Rattle.std.proofs.lemmas.Nat.{mul-add-lt}
use Rattle.flow_measure.specs.Bins.{is_above, is_below, is_in_bin}
use Rattle.flow_measure.specs.Broken.{any_of, group_breaks}
use Rattle.flow_measure.specs.Classes.{is_in_class}
use Rattle.flow_measure.specs.Columns.{AreExtremes, column_at, places_in}
use Rattle.flow_measure.specs.Stands.{Classifies, Counts, CountsBroken, DrawsCurve, DrawsEye, Summarizes, curve_columns, eye_column_of, eye_columns}
use Rattle.flow_measure.specs.Summary.{sum_of}
use Rattle.flow_measure.specs.declared.bins.Bins.{Bins}
use Rattle.flow_measure.specs.declared.broken.BrokenGroups.{BrokenGroups}
use Rattle.flow_measure.specs.declared.classes.Classes.{Classes}
use Rattle.flow_measure.specs.declared.columns.Extremes.{Extremes}
use Rattle.flow_measure.specs.declared.columns.curve.Curve.{Curve}
use Rattle.flow_measure.specs.declared.columns.eye.Eye.{Eye}
use Rattle.flow_measure.specs.declared.summary.SummaryMeter.{SummaryMeter}
use Rattle.flow_measure.proofs.Bounds.{IsGreatest-same, IsLeast-same}
use Rattle.flow_measure.proofs.Counted.{count_of-same}

-- the sum of numbers that are the same at those places
pub sum_of-same : (numbers others : ℕ → ℤ) (count : ℕ) → ((i : ℕ) → i < count → others i ≡ numbers i) → sum_of others count ≡ sum_of numbers count
sum_of-same numbers others zero same = refl
sum_of-same numbers others (suc count) same =
    let before = sum_of-same numbers others count (λ i few. same i (omega (arith, few))) in
    ap (λ s. s +ℤ others count) before ∙ ap (λ x. sum_of numbers count +ℤ x) (same count (omega arith))

pub summary-agrees : (m : SummaryMeter) (numbers others : ℕ → ℤ)
    → ((i : ℕ) → i < m.seen → others i ≡ numbers i)
    → Summarizes m numbers
    → Summarizes m others
summary-agrees m numbers others same h = λ some.
    let s = h some in
    record {
      some = some;
      least = IsLeast-same numbers others (λ i. i < m.seen) m.so_far.least same s.least;
      greatest = IsGreatest-same numbers others (λ i. i < m.seen) m.so_far.greatest same s.greatest;
      sum_is = s.sum_is ∙ sym (sum_of-same numbers others m.seen same);
      first = s.first ∙ sym (same 0 some);
      last = s.last ∙ sym (same (m.seen - 1) (omega (arith, some)));
    }

pub bins-agree : (b : Bins) (numbers others : ℕ → ℤ)
    → ((i : ℕ) → i < b.seen → others i ≡ numbers i)
    → Counts b numbers
    → Counts b others
bins-agree b numbers others same h = record {
  each = λ bin few. h.each bin few
      ∙ sym (count_of-same (λ i. is_in_bin b.limit bin (numbers i)) (λ i. is_in_bin b.limit bin (others i)) b.seen
      (λ i inside. ap (is_in_bin b.limit bin) (same i inside)));
  above = h.above
      ∙ sym (count_of-same (λ i. is_above b.limit (numbers i)) (λ i. is_above b.limit (others i)) b.seen
      (λ i inside. ap (is_above b.limit) (same i inside)));
  below = h.below
      ∙ sym (count_of-same (λ i. is_below (numbers i)) (λ i. is_below (others i)) b.seen (λ i inside. ap is_below (same i inside)));
}

pub classes-agree : (c : Classes) (numbers others : ℕ → ℕ)
    → ((i : ℕ) → i < c.seen → others i ≡ numbers i)
    → Classifies c numbers
    → Classifies c others
classes-agree c numbers others same h =
    let kept = λ (class : ℕ). count_of-same (λ i. is_in_class class (numbers i)) (λ i. is_in_class class (others i)) c.seen
    (λ i inside. ap (is_in_class class) (same i inside)) in
    record {
      each = λ class few. h.each class few ∙ sym (kept class);
      rest = λ class past. kept class ∙ h.rest class past;
      ends = λ last e. omega (arith, kept last, h.ends last e);
    }

-- the extremes of a column
extremes-agree : (column_of : ℕ → ℕ) (numbers others : ℕ → ℤ) (count k : ℕ) (e : Extremes)
    → ((i : ℕ) → i < count → others i ≡ numbers i)
    → AreExtremes numbers (places_in column_of count k) e
    → AreExtremes others (places_in column_of count k) e
extremes-agree column_of numbers others count k e same h = record {
  least = IsLeast-same numbers others (places_in column_of count k) e.least (λ i p. same i p.0) h.least;
  greatest = IsGreatest-same numbers others (places_in column_of count k) e.greatest (λ i p. same i p.0) h.greatest;
}

pub curve-agrees : {N : Type 0} (value : N → ℤ) (c : Curve N) (numbers others : ℕ → ℤ)
    → ((i : ℕ) → i < c.seen → others i ≡ numbers i)
    → DrawsCurve value c numbers
    → DrawsCurve value c others
curve-agrees value c numbers others same h = record {
  each = λ k few.
      extremes-agree (λ i. i / c.width) numbers others c.seen k (column_at (curve_columns value c) k) same (h.each k few);
}

pub eye-agrees : {N : Type 0} (value : N → ℤ) (e : Eye N) (numbers others : ℕ → ℤ)
    → ((i : ℕ) → i < e.seen → others i ≡ numbers i)
    → DrawsEye value e numbers
    → DrawsEye value e others
eye-agrees value e numbers others same h = record {
  within = h.within;
  each = λ k few. extremes-agree (eye_column_of e) numbers others e.seen k (column_at (eye_columns value e) k) same (h.each k few);
}

-- whether one passes, of tests that are the same at those places
any_of-same : (test other : ℕ → Bool) (count : ℕ) → ((i : ℕ) → i < count → other i ≡ test i) → any_of other count ≡ any_of test count
any_of-same test other zero same = refl
any_of-same test other (suc count) same =
    let before = any_of-same test other count (λ i few. same i (omega (arith, few))) in
    ap (λ (b : Bool). b || other count) before ∙ ap (λ (b : Bool). any_of test count || b) (same count (omega arith))

pub broken-agrees : (n seen : ℕ) (b : BrokenGroups) (broken others : ℕ → Bool)
    → ((i : ℕ) → i < seen → others i ≡ broken i)
    → CountsBroken n b broken seen
    → CountsBroken n b others seen
broken-agrees n seen b broken others same h = record {
  over = h.over
      ∙ sym (count_of-same (group_breaks n broken) (group_breaks n others) b.whole
      (λ k few. any_of-same (λ j. broken (k * n + j)) (λ j. others (k * n + j)) n
      (λ j inside. same (k * n + j) (omega (arith, mul-add-lt k n j b.whole few inside, h.begun)))));
  here_is = h.here_is
      ∙ sym (any_of-same (λ j. broken (b.whole * n + j)) (λ j. others (b.whole * n + j)) (seen - b.whole * n)
      (λ j inside. same (b.whole * n + j) (omega (arith, inside, h.begun))));
  begun = h.begun;
}
