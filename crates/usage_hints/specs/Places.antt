-- The place of a packet record in joined captures. Captures count from 0, records from 1.
use Rattle.std.specs.Prelude.{◌≡◌, ◌≤◌, ◌<◌, ◌+◌, ℕ, List, slice_index_or}

-- a record with the number `joined` among those of all captures is the one with the number `number` in this capture,
-- the last of the first `count` captures with fewer records before it. `starts` has the number of records before each
pub record IsPlace (starts : List ℕ) (count joined capture number : ℕ) : Type 0 where
  pub some : 1 ≤ number
  pub before : slice_index_or starts capture 0 + number ≡ joined
  pub last : (later : ℕ) → capture < later → later < count → joined ≤ slice_index_or starts later 0
