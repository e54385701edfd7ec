-- The state of the meters of plain numbers after the numbers that they were fed. `numbers` gives the number at each
-- place, and the first `seen` of them were fed.
use Rattle.std.specs.Prelude.{◌≡◌, ◌<◌, ◌≤◌, ◌+◌, ◌-◌, ◌*◌, ◌/◌, ◌%◌, ℕ, ℤ, Bool, List, length, map, slice_index}
use Rattle.flow_measure.specs.Bins.{above_limit, below_zero, in_bin}
use Rattle.flow_measure.specs.Broken.{any_of, broken_groups}
use Rattle.flow_measure.specs.Classes.{in_class}
use Rattle.flow_measure.specs.Columns.{AreExtremes, column_at, places_in}
use Rattle.flow_measure.specs.Extremes.{extremes_of}
use Rattle.flow_measure.specs.Summary.{IsSummary}
use Rattle.flow_measure.specs.declared.bins.Bins.{Bins}
use Rattle.flow_measure.specs.declared.broken.BrokenGroups.{BrokenGroups}
use Rattle.flow_measure.specs.declared.classes.Classes.{Classes}
use Rattle.flow_measure.specs.declared.columns.curve.Curve.{Curve}
use Rattle.flow_measure.specs.declared.columns.Extremes.{Extremes}
use Rattle.flow_measure.specs.declared.columns.eye.Eye.{Eye}
use Rattle.flow_measure.specs.declared.summary.SummaryMeter.{SummaryMeter}

-- the meter was fed these numbers
abbrev pub Summarizes : SummaryMeter → (numbers : ℕ → ℤ) → Type 0
Summarizes m numbers = 0 < m.seen → IsSummary numbers m.seen m.so_far

-- the bins were fed these numbers
pub record Counts (b : Bins) (numbers : ℕ → ℤ) : Type 0 where
  pub each : (bin : ℕ) → bin < 64 → slice_index b.counts bin ≡ in_bin b.limit bin numbers b.seen
  pub above : b.above ≡ above_limit b.limit numbers b.seen
  pub below : b.below ≡ below_zero numbers b.seen

-- the classes were fed these numbers
pub record Classifies (c : Classes) (numbers : ℕ → ℕ) : Type 0 where
  pub each : (class : ℕ) → class < 64 → slice_index c.counts class ≡ in_class class numbers c.seen
  pub rest : (class : ℕ) → c.length ≤ class → in_class class numbers c.seen ≡ 0
  pub ends : (last : ℕ) → c.length ≡ last + 1 → 0 < in_class last numbers c.seen

-- the columns of a curve of numbers with these values
abbrev pub curve_columns : {N : Type 0} → (value : N → ℤ) → Curve N → List Extremes
curve_columns value c = map (extremes_of value) c.columns.items

-- the curve was fed these numbers
pub record DrawsCurve {N : Type 0} (value : N → ℤ) (c : Curve N) (numbers : ℕ → ℤ) : Type 0 where
  pub each : (k : ℕ) → k < c.begun
      → AreExtremes numbers (places_in (λ i. i / c.width) c.seen k) (column_at (curve_columns value c) k)

-- the columns of an eye of numbers with these values
abbrev pub eye_columns : {N : Type 0} → (value : N → ℤ) → Eye N → List Extremes
eye_columns value e = map (extremes_of value) e.columns.items

-- the column of an eye to which the number at place i belongs
abbrev pub eye_column_of : {N : Type 0} → Eye N → ℕ → ℕ
eye_column_of e i = (i % e.group) / e.width

-- the eye was fed these numbers
pub record DrawsEye {N : Type 0} (value : N → ℤ) (e : Eye N) (numbers : ℕ → ℤ) : Type 0 where
  pub within : (i : ℕ) → i < e.seen → eye_column_of e i < e.begun
  pub each : (k : ℕ) → k < e.begun
      → AreExtremes numbers (places_in (eye_column_of e) e.seen k) (column_at (eye_columns value e) k)

-- the counter was fed `seen` packets, in frames or fields of n packets, and `broken` is which of them are broken
pub record CountsBroken (n : ℕ) (b : BrokenGroups) (broken : ℕ → Bool) (seen : ℕ) : Type 0 where
  pub over : b.broken ≡ broken_groups n broken b.whole
  pub here_is : b.here ≡ any_of (λ j. broken (b.whole * n + j)) (seen - b.whole * n)
  pub begun : b.whole * n ≤ seen
