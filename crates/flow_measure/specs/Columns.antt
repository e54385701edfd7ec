-- The columns of a picture of whole numbers. Each column has the least and the greatest of its numbers, so no peak is
-- hidden, however many numbers there are. `numbers` gives the number at each place, from 0, and `count` is how many
-- there are. Columns are counted from 0. This project's own definition.
use Rattle.std.specs.Prelude.{◌≡◌, ◌<◌, ◌≤◌, ◌/◌, ◌%◌, ◌^◌, ℕ, ℤ, pos, List, length, nat_lt}
use Rattle.std.specs.Int.{IsPowerOfTwo, div_ceil}
use Rattle.std.specs.List.{slice_index_or}
use Rattle.flow_measure.specs.Counts.{count_of}
use Rattle.flow_measure.specs.Summary.{IsGreatest, IsLeast}
use Rattle.flow_measure.specs.declared.columns.Extremes.{Extremes}

-- the least and the greatest of the numbers at these places
pub record AreExtremes (numbers : ℕ → ℤ) (places : ℕ → Type 0) (e : Extremes) : Type 0 where
  pub least : IsLeast numbers places e.least
  pub greatest : IsGreatest numbers places e.greatest

-- the places among the first `count` that belong to this column
abbrev pub places_in : (column_of : ℕ → ℕ) → (count column : ℕ) → ℕ → Type 0
places_in column_of count column i = (i < count) × (column_of i ≡ column)

-- column c of the list
abbrev pub column_at : List Extremes → ℕ → Extremes
column_at columns c = slice_index_or columns c (record { least = pos 0; greatest = pos 0 })

-- the least number of column c
abbrev pub least_at : List Extremes → ℕ → ℤ
least_at columns c = (column_at columns c).least

-- the greatest number of column c
abbrev pub greatest_at : List Extremes → ℕ → ℤ
greatest_at columns c = (column_at columns c).greatest

-- the columns of the first `count` numbers; the number at place i belongs to column `column_of i`. Each column has at
-- least one number, and each number has a column
pub record AreColumns (column_of : ℕ → ℕ) (numbers : ℕ → ℤ) (count : ℕ) (columns : List Extremes) : Type 0 where
  pub within : (i : ℕ) → i < count → column_of i < length columns
  pub each : (c : ℕ) → c < length columns → AreExtremes numbers (places_in column_of count c) (column_at columns c)

-- w is the width of the columns of a curve of `count` numbers: the least power of two that makes at most `most`
-- columns. So the columns can be made while numbers arrive, by joining neighbours if no room is left
pub record IsWidth (count most w : ℕ) : Type 0 where
  pub power : IsPowerOfTwo w
  pub fits : div_ceil count w ≤ most
  pub least : (k : ℕ) → div_ceil count (2 ^ k) ≤ most → w ≤ 2 ^ k

-- the width of a curve, as a value: it doubles once for each power of two that is too narrow
unfoldable pub width_of : (count most : ℕ) → ℕ
width_of count most = 2 ^ count_of (λ k. nat_lt most (div_ceil count (2 ^ k))) count

-- the number of columns of a curve of `count` numbers in at most `most` columns
abbrev pub columns_of : (count most : ℕ) → ℕ
columns_of count most = div_ceil count (width_of count most)

-- the curve of the first `count` numbers in at most `most` columns: the first `width_of` numbers belong to column 0,
-- the next `width_of` to column 1, and so on
abbrev pub AreCurve : (most : ℕ) → (numbers : ℕ → ℤ) → (count : ℕ) → List Extremes → Type 0
AreCurve most numbers count columns = AreColumns (λ i. i / width_of count most) numbers count columns

-- the number of places of a group per column of an eye, with at most `most` columns; the last column may have fewer
-- places
abbrev pub strip_of : (group most : ℕ) → ℕ
strip_of group most = div_ceil group most

-- the eye of groups of numbers in at most `most` columns: all groups overlaid
abbrev pub AreEye : (group most : ℕ) → (numbers : ℕ → ℤ) → (count : ℕ) → List Extremes → Type 0
AreEye group most numbers count columns = AreColumns (λ i. (i % group) / strip_of group most) numbers count columns
