-- The runs of a flow with gaps, as in the report.
use Rattle.std.specs.Prelude.{◌≡◌, ◌≤◌, ⊤, List, [], ◌∷◌, length, All, IsSome, None}
use Rattle.timing_base.specs.declared.row.Run.{Run}

-- the first run alone has no expected number
abbrev pub ExpectAfterFirst : List Run → Type 0
ExpectAfterFirst [] = ⊤
ExpectAfterFirst (run ∷ rest) = (run.expected ≡ None) × All (λ later. IsSome later.expected) rest

-- the 2 to 1,025 runs of a flow with 1 to 1,024 gaps
pub record AreRuns (runs : List Run) : Type 0 where
  pub some : 2 ≤ length runs
  pub few : length runs ≤ 1025
  pub expected : ExpectAfterFirst runs
