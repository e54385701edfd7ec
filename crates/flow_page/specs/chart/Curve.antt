-- The curve of columns: one band in steps, from the least to the greatest number of each column. A step is written only
-- if the height changes.
use Rattle.std.specs.Prelude.{◌≡◌, ◌≤◌, ℕ, ℤ, ◌+◌, ◌==◌, if◌then◌else◌, List, [], ◌∷◌, ◌++◌, codes, length}
use Rattle.flow_measure.specs.Columns.{column_at}
use Rattle.flow_measure.specs.declared.columns.Extremes.{Extremes}
use Rattle.flow_page.specs.chart.Marks.{edge, tenths_text, y_of}
use Rattle.flow_page.specs.declared.chart.plot.Plot.{Plot}

-- the path to an end of a column, and from there up or down, if the height changes
abbrev pub turn : Plot → (edge_of before y : ℕ) → List ℕ
turn p edge_of before y =
    if y == before then [] else codes "H" ++ (tenths_text (edge p edge_of) ++ (codes "V" ++ tenths_text y))

-- the path along the greatest numbers to the right, from column c on
abbrev pub over_text : Plot → (c before : ℕ) → List Extremes → List ℕ
over_text p c before [] = codes "H" ++ tenths_text (edge p c)
over_text p c before (e ∷ rest) =
    turn p c before (y_of p e.greatest) ++ over_text p (c + 1) (y_of p e.greatest) rest

-- the height from which the way back reaches a column: the least number of the next column, or for the last column its
-- own greatest
abbrev pub comes_from : Plot → Extremes → List Extremes → ℕ
comes_from p e [] = y_of p e.greatest
comes_from p e (next ∷ rest) = y_of p next.least

-- the path along the least numbers back to column c
abbrev pub under_text : Plot → ℕ → List Extremes → List ℕ
under_text p c [] = []
under_text p c (e ∷ rest) =
    under_text p (c + 1) rest ++ turn p (c + 1) (comes_from p e rest) (y_of p e.least)

-- the start of the band, at the greatest number of the first column
abbrev pub band_start : Plot → Extremes → List ℕ
band_start p e =
    codes "<path class=\"band\" d=\"M" ++ (tenths_text (edge p 0) ++ (codes " " ++ tenths_text (y_of p e.greatest)))

-- the end of the band at the left, where its path is closed
abbrev pub band_end : Plot → List ℕ
band_end p = codes "H" ++ (tenths_text (edge p 0) ++ codes "Z\"/>")

-- the whole band; nothing if there is no column
abbrev pub band_text : Plot → List Extremes → List ℕ
band_text p columns =
    if length columns == 0 then []
    else band_start p (column_at columns 0)
    ++ (over_text p 0 (y_of p (column_at columns 0).greatest) columns ++ (under_text p 0 columns ++ band_end p))

-- the band of a column with these extremes includes the place of a number; y grows downward
abbrev pub Spans : Plot → Extremes → ℤ → Type 0
Spans p e x = (y_of p e.greatest ≤ y_of p x) × (y_of p x ≤ y_of p e.least)

-- both ends of the band are places of numbers that belong to it
pub record EndsAtNumbers (p : Plot) (numbers : ℕ → ℤ) (places : ℕ → Type 0) (e : Extremes) : Type 0 where
  pub top : (i : ℕ) × (places i) × (y_of p (numbers i) ≡ y_of p e.greatest)
  pub bottom : (i : ℕ) × (places i) × (y_of p (numbers i) ≡ y_of p e.least)
