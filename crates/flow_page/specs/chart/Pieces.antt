-- Texts of one piece for each number from 0 on.
use Rattle.std.specs.Prelude.{ℕ, zero, suc, List, [], ◌++◌}

-- the pieces 0 to n - 1
abbrev pub upto : (ℕ → List ℕ) → ℕ → List ℕ
upto piece zero = []
upto piece (suc n) = upto piece n ++ piece n
