-- The distribution of passes. A lane gives a row of passes, one for each file, and each file gets one of each lane; and
-- back.
use Rattle.std.specs.Prelude.{List, [], ◌∷◌, ◌++◌}

-- one item of a row is appended to each list, in order
abbrev pub dealt : {X : Type 0} → List X → List (List X) → List (List X)
dealt [] lists = lists
dealt (x ∷ row) [] = []
dealt (x ∷ row) (list ∷ lists) = (list ++ x ∷ []) ∷ dealt row lists

-- rows are dealt out one after the other
abbrev pub dealt_all : {X : Type 0} → List (List X) → List (List X) → List (List X)
dealt_all [] lists = lists
dealt_all (row ∷ rows) lists = dealt_all rows (dealt row lists)
