-- The least and the greatest number of a column, computed while numbers arrive.
use Rattle.std.specs.Prelude.{ℤ}
use Rattle.std.specs.Int.{int_max, int_min}
use Rattle.flow_measure.specs.declared.columns.Column.{Column}
use Rattle.flow_measure.specs.declared.columns.Extremes.{Extremes}

-- the extremes of one number
abbrev pub only : ℤ → Extremes
only x = record { least = x; greatest = x }

-- the extremes of the numbers of two columns
abbrev pub joined : Extremes → Extremes → Extremes
joined a b = record { least = int_min a.least b.least; greatest = int_max a.greatest b.greatest }

-- the extremes of a column of numbers of type N, with these values
abbrev pub extremes_of : {N : Type 0} → (value : N → ℤ) → Column N → Extremes
extremes_of value c = record { least = value c.least; greatest = value c.greatest }
