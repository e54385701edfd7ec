-- Where a picture has its greatest number: the first column that reaches it, in words. Places count from 0. This
-- project's own format.
use Rattle.std.specs.Prelude.{ℕ, ℤ, ◌+◌, ◌-◌, ◌*◌, ◌==◌, min, int_lt, if◌then◌else◌, List, [], ◌∷◌, ◌++◌, codes}
use Rattle.std.specs.Fmt.{decimal}
use Rattle.flow_measure.specs.declared.columns.Extremes.{Extremes}
use Rattle.flow_page.specs.declared.chart.plot.Across.{Across}

-- the number of the first column that reaches a number, counted on from `at`
abbrev pub peak_from : (most : ℤ) → (at : ℕ) → List Extremes → ℕ
peak_from most at [] = at
peak_from most at (column ∷ columns) = if int_lt column.greatest most then peak_from most (at + 1) columns else at

-- the first and the last place of a column; the last column may have fewer places than the others
abbrev pub place_first : Across → (column : ℕ) → ℕ
place_first a column = column * a.each

abbrev pub place_last : Across → (column : ℕ) → ℕ
place_last a column = min ((column + 1) * a.each) a.count - 1

-- the text on the places of a column, each of which is called by this noun
unfoldable pub places_text : (noun : List ℕ) → (first last : ℕ) → List ℕ
places_text noun first last =
    if first == last then codes ", first at " ++ (noun ++ (codes " " ++ decimal first))
    else codes ", first within " ++ (noun ++ (codes "s " ++ (decimal first ++ (codes " to " ++ decimal last))))

-- the text on where the columns reach their greatest number first
abbrev pub peak_text : (noun : List ℕ) → Across → (most : ℤ) → List Extremes → List ℕ
peak_text noun a most columns =
    places_text noun (place_first a (peak_from most 0 columns)) (place_last a (peak_from most 0 columns))
