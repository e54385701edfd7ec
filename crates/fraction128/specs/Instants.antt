-- The instants of a line: instant k, counted from 1, is k * num / den after the origin, for example in nanoseconds.
-- A clock has the next one, rounded up to a whole number.
use Rattle.std.specs.Prelude.{◌≡◌, ◌≤◌, ◌<◌, ◌+◌, ◌-◌, ◌*◌, ◌/◌, ◌↔◌, ℕ}

-- the number of instants up to t, inclusive
abbrev pub instants_of : (num den origin t : ℕ) → ℕ
instants_of num den origin t = (t - origin) * den / num

-- the instant after the first `count` ones is at `due`, rounded up by `slack` parts of 1 / den
pub record IsNext (num den origin count due slack : ℕ) : Type 0 where
  pub least : slack < den
  pub reached : (count + 1) * num + slack ≡ (due - origin) * den

-- the next instant is at most t exactly if `due` is
abbrev pub NextIsDue : Type 0
NextIsDue = (num den origin count due slack t : ℕ) → 1 ≤ num → IsNext num den origin count due slack
    → (due ≤ t) ↔ (count < instants_of num den origin t)
