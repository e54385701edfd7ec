-- Examples for definitions worked by hand.
use Rattle.std.specs.Prelude.{ℕ, ℤ, pos, List, slice_index}
use Rattle.std.specs.List.{slice_index_or}
use Rattle.flow_measure.specs.declared.columns.Extremes.{Extremes}
use Rattle.flow_measure.specs.declared.numbers.Place.{Place}
use Rattle.flow_measure.specs.declared.summary.Summary.{Summary}

-- the whole numbers of a list, by their places from 0
abbrev pub listed : List ℤ → ℕ → ℤ
listed xs i = slice_index_or xs i (pos 0)

-- the natural numbers of a list, by their places from 0
abbrev pub naturals : List ℕ → ℕ → ℕ
naturals xs i = slice_index xs i

-- a summary with these values
abbrev pub summary : (least greatest sum first last : ℤ) → Summary
summary least greatest sum first last = record {
  least = least;
  greatest = greatest;
  sum = sum;
  first = first;
  last = last;
}

-- a column with these extremes
abbrev pub column : (least greatest : ℤ) → Extremes
column least greatest = record { least = least; greatest = greatest }

-- the place in a capture with this packet record, from 1, and this capture timestamp in nanoseconds
abbrev pub place : (rec stamp : ℕ) → Place
place rec stamp = record { «record» = rec; stamp = stamp }
