-- Histogram of whole numbers, such as nanoseconds, in classes that double: class 0 has the zeros, class 1 the ones,
-- class 2 has 2 and 3, class 3 has 4 to 7, and so on. `numbers` gives the number at each place, from 0, and `count` is
-- how many there are. This project's own definition.
use Rattle.std.specs.Prelude.{◌≡◌, ◌^◌, ◌<◌, ◌≤◌, ◌+◌, ℕ, zero, suc, Bool, ◌&&◌, ◌==◌, nat_le, nat_lt, List, length}
use Rattle.std.specs.Prelude.{slice_index}
use Rattle.flow_measure.specs.Counts.{count_of}

-- a number belongs to this class
abbrev pub is_in_class : (class : ℕ) → ℕ → Bool
is_in_class zero x = x == 0
is_in_class (suc c) x = nat_le (2 ^ c) x && nat_lt x (2 ^ suc c)

-- the count of the first `count` numbers that belong to this class
abbrev pub in_class : (class : ℕ) → (numbers : ℕ → ℕ) → (count : ℕ) → ℕ
in_class class numbers count = count_of (λ i. is_in_class class (numbers i)) count

-- the counts of the classes, in order, up to the last class that has a number
pub record AreClasses (numbers : ℕ → ℕ) (count : ℕ) (counts : List ℕ) : Type 0 where
  pub each : (class : ℕ) → class < length counts → slice_index counts class ≡ in_class class numbers count
  pub rest : (class : ℕ) → length counts ≤ class → in_class class numbers count ≡ 0
  pub ends : (last : ℕ) → length counts ≡ last + 1 → 0 < slice_index counts last
