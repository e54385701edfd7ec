-- The meaning of a `Clock` of a `Line`.
use Rattle.std.specs.Prelude.{◌≡◌, ◌+◌, ℕ}
use Rattle.fraction128.specs.Instants.{IsNext, instants_of}
use Rattle.fraction128.specs.declared.clock.Clock.{Clock}
use Rattle.fraction128.specs.declared.clock.Line.{Line}

-- the number of instants of the line up to t, inclusive
abbrev pub passed_by : Line → (origin t : ℕ) → ℕ
passed_by line origin t = instants_of line.num line.den origin t

-- the clock has the instant that follows the first `count` ones of the line
abbrev pub StandsAfter : Line → Clock → (origin count : ℕ) → Type 0
StandsAfter line clock origin count = IsNext line.num line.den origin count clock.due clock.slack

-- the clock has the first instant after t
abbrev pub StandsAt : Line → Clock → (origin t : ℕ) → Type 0
StandsAt line clock origin t = StandsAfter line clock origin (passed_by line origin t)

-- `count` instants are after `before` and up to t, inclusive, and the clock is at t
pub record HasPassed (line : Line) (clock : Clock) (origin before t count : ℕ) : Type 0 where
  pub exact : passed_by line origin before + count ≡ passed_by line origin t
  pub stands : StandsAt line clock origin t
