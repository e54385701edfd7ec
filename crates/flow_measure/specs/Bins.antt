-- Histogram of whole numbers up to a limit, with the counts of the numbers above the limit and below 0. `numbers` gives
-- the number at each place, from 0, and `count` is how many there are. Bins are counted from 0. This project's own
-- definition.
use Rattle.std.specs.Prelude.{◌≡◌, ◌+◌, ◌/◌, ◌<◌, ℕ, ℤ, pos, negsuc, Bool, true, false, ◌&&◌, ◌==◌, nat_le, nat_lt}
use Rattle.std.specs.Prelude.{List, length, slice_index}
use Rattle.std.specs.Int.{div_ceil}
use Rattle.flow_measure.specs.Counts.{count_of}

-- the width of a bin: the least with which 64 bins reach the limit
abbrev pub bin_width : (limit : ℕ) → ℕ
bin_width limit = div_ceil (limit + 1) 64

-- the number of bins that reach the limit
abbrev pub bin_count : (limit : ℕ) → ℕ
bin_count limit = limit / bin_width limit + 1

-- a number belongs to this bin
abbrev pub is_in_bin : (limit bin : ℕ) → ℤ → Bool
is_in_bin limit bin (pos x) = nat_le x limit && (x / bin_width limit == bin)
is_in_bin limit bin (negsuc x) = false

-- a number is above the limit
abbrev pub is_above : (limit : ℕ) → ℤ → Bool
is_above limit (pos x) = nat_lt limit x
is_above limit (negsuc x) = false

-- a number is below 0
abbrev pub is_below : ℤ → Bool
is_below (pos x) = false
is_below (negsuc x) = true

-- the count of the first `count` numbers that belong to this bin
abbrev pub in_bin : (limit bin : ℕ) → (numbers : ℕ → ℤ) → (count : ℕ) → ℕ
in_bin limit bin numbers count = count_of (λ i. is_in_bin limit bin (numbers i)) count

-- the count of the first `count` numbers that are above the limit
abbrev pub above_limit : (limit : ℕ) → (numbers : ℕ → ℤ) → (count : ℕ) → ℕ
above_limit limit numbers count = count_of (λ i. is_above limit (numbers i)) count

-- the count of the first `count` numbers that are below 0
abbrev pub below_zero : (numbers : ℕ → ℤ) → (count : ℕ) → ℕ
below_zero numbers count = count_of (λ i. is_below (numbers i)) count

-- the counts of all bins, in order
pub record AreBins (limit : ℕ) (numbers : ℕ → ℤ) (count : ℕ) (counts : List ℕ) : Type 0 where
  pub length_is : length counts ≡ bin_count limit
  pub each : (bin : ℕ) → bin < length counts → slice_index counts bin ≡ in_bin limit bin numbers count
