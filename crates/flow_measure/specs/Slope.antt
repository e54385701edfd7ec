-- A drift of numbers that exceeds their scatter, from the first and the last full column of their curve. A drift
-- without jitter accumulates over all columns, and scatters only by the drift within one column, so it is reported.
-- Jitter alone isn't reported. This project's own definition.
use Rattle.std.specs.Prelude.{◌≡◌, ◌-◌, ◌*◌, ◌/◌, ◌-ℤ◌, ℕ, ℤ, max, nat_lt, if◌then◌else◌, List}
use Rattle.std.specs.Prelude.{Option, Some, None, int_lt, unsigned_abs}
use Rattle.flow_measure.specs.Columns.{AreCurve, column_at, width_of}
use Rattle.flow_measure.specs.declared.columns.Extremes.{Extremes}
use Rattle.flow_measure.specs.declared.columns.slope.Slope.{Slope}

-- the difference of the greatest and the least number of a column
abbrev pub scatter_of : Extremes → ℕ
scatter_of e = unsigned_abs (e.greatest -ℤ e.least)

-- the slope from one column to another, `over` numbers later: none if their least numbers differ by no more than the
-- numbers within one of them
abbrev pub slope_between : (first last : Extremes) → (over : ℕ) → Option Slope
slope_between first last over =
    if nat_lt (max (scatter_of first) (scatter_of last)) (unsigned_abs (last.least -ℤ first.least))
    then Some (record {
      falls = int_lt last.least first.least;
      by = unsigned_abs (last.least -ℤ first.least);
      over = over;
    })
    else None

-- the last full column, counted from 0
abbrev pub last_full : (count most : ℕ) → ℕ
last_full count most = count / width_of count most - 1

-- the slope of a curve of `count` numbers, from the first column to the last full one; none if there are fewer numbers
-- than columns
abbrev pub slope_of : (count most : ℕ) → List Extremes → Option Slope
slope_of count most columns =
    if nat_lt count most then None
    else slope_between (column_at columns 0) (column_at columns (last_full count most))
    (last_full count most * width_of count most)

-- the slope of the first `count` numbers, from their curve in at most `most` columns
pub record IsSlope (most : ℕ) (numbers : ℕ → ℤ) (count : ℕ) (s : Option Slope) : Type 0 where
  pub columns : List Extremes
  pub are : AreCurve most numbers count columns
  pub is : s ≡ slope_of count most columns
