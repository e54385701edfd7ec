-- The count of frames or fields that have a broken packet. `broken` is whether a packet, counted from 0, is broken, and
-- n is the number of packets per frame or field. This project's own definition.
use Rattle.std.specs.Prelude.{◌+◌, ◌*◌, ℕ, zero, suc, Bool, false, ◌||◌}
use Rattle.flow_measure.specs.Counts.{count_of}

-- one of the first `count` places passes the test
abbrev pub any_of : (test : ℕ → Bool) → (count : ℕ) → Bool
any_of test zero = false
any_of test (suc i) = any_of test i || test i

-- frame or field k has a broken packet
abbrev pub group_breaks : (n : ℕ) → (broken : ℕ → Bool) → ℕ → Bool
group_breaks n broken k = any_of (λ j. broken (k * n + j)) n

-- the count of the first `groups` frames or fields that have a broken packet
abbrev pub broken_groups : (n : ℕ) → (broken : ℕ → Bool) → (groups : ℕ) → ℕ
broken_groups n broken groups = count_of (group_breaks n broken) groups
