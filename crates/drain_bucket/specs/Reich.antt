-- Reich's formula: a count that ticks lower, and never below 0, is the greatest excess over any interval.
use Rattle.std.specs.Prelude.{◌≡◌, ◌≤◌, ◌<◌, ℕ, List, length}
use Rattle.timing_base.specs.Media.{Media}
use Rattle.sender_params.specs.Ticks.{NeverFall, load_of}
use Rattle.drain_bucket.specs.Word.{bucket_of}

-- the bucket at packet i is the greatest load of an interval that ends there
pub record IsGreatestLoad (m : Media) (n : ℕ) (stamps : List ℕ) (i : ℕ) : Type 0 where
  pub most : (j : ℕ) → j ≤ i → load_of m n stamps j i ≤ bucket_of m n stamps i
  pub reached : (j : ℕ) × (j ≤ i) × (load_of m n stamps j i ≡ bucket_of m n stamps i)

-- the bucket is the greatest load at each packet of every list of capture timestamps that never go back
abbrev pub CountIsLoad : Type 0
CountIsLoad = (m : Media) (n : ℕ) (stamps : List ℕ) (i : ℕ) → NeverFall stamps → i < length stamps
    → IsGreatestLoad m n stamps i
