-- The first place that passes a test, counted from 0.
use Rattle.std.specs.Prelude.{◌≡◌, ◌<◌, ℕ, Bool, true, false, Option, Some, None}

-- the first of `count` places that passes the test, or `None` if none of them passes
abbrev pub IsFirst : (test : ℕ → Bool) → (count : ℕ) → Option ℕ → Type 0
IsFirst test count None = (i : ℕ) → i < count → test i ≡ false
IsFirst test count (Some i) = (i < count) × (test i ≡ true) × ((k : ℕ) → k < i → test k ≡ false)
