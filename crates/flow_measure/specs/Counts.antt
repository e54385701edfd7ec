-- The count of the first places that have a property.
use Rattle.std.specs.Prelude.{◌+◌, ℕ, zero, suc, Bool, cond}

-- the count of the first `count` places that pass the test
abbrev pub count_of : (test : ℕ → Bool) → (count : ℕ) → ℕ
count_of test zero = 0
count_of test (suc i) = count_of test i + cond (test i) 1 0
