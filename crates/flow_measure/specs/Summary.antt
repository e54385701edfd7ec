-- The summary of whole numbers: their least, greatest, sum, first and last. `numbers` gives the number at each place,
-- from 0, and `count` is how many there are. All values except `count` have the numbers' unit. This project's own
-- definition.
use Rattle.std.specs.Prelude.{◌≡◌, ◌<◌, ◌-◌, ℕ, zero, suc, ℤ, pos, ◌+ℤ◌, ◌≤ℤ◌}
use Rattle.flow_measure.specs.declared.summary.Summary.{Summary}

-- x is the least of the numbers at these places: it is one of them, and none is below it
pub record IsLeast (numbers : ℕ → ℤ) (places : ℕ → Type 0) (x : ℤ) : Type 0 where
  pub least : (i : ℕ) → places i → x ≤ℤ numbers i
  pub reached : (i : ℕ) × (places i) × (numbers i ≡ x)

-- x is the greatest of the numbers at these places
pub record IsGreatest (numbers : ℕ → ℤ) (places : ℕ → Type 0) (x : ℤ) : Type 0 where
  pub greatest : (i : ℕ) → places i → numbers i ≤ℤ x
  pub reached : (i : ℕ) × (places i) × (numbers i ≡ x)

-- the sum of the first `count` numbers
abbrev pub sum_of : (numbers : ℕ → ℤ) → (count : ℕ) → ℤ
sum_of numbers zero = pos 0
sum_of numbers (suc i) = sum_of numbers i +ℤ numbers i

-- the summary of the first `count` numbers, of which there is at least one
pub record IsSummary (numbers : ℕ → ℤ) (count : ℕ) (s : Summary) : Type 0 where
  pub some : 0 < count
  pub least : IsLeast numbers (λ i. i < count) s.least
  pub greatest : IsGreatest numbers (λ i. i < count) s.greatest
  pub sum_is : s.sum ≡ sum_of numbers count
  pub first : s.first ≡ numbers 0
  pub last : s.last ≡ numbers (count - 1)
