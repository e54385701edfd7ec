-- The common options that change how the packets of a flow are judged: which timestamps and numbers they get.
-- Capture timestamps are nanoseconds. This project's profile.
use Rattle.std.specs.Prelude.{◌≤◌, ℕ, Bool, false, ◌+◌, ◌-◌, ◌*◌, ◌^◌}

-- what is added to each capture timestamp (`--tai`, seconds), and what is then subtracted (`--delay`, nanoseconds)
pub record Shift : Type 0 where
  pub tai : ℕ
  pub delay : ℕ

-- at most 1,000 seconds are added, and less than a second is subtracted
pub record IsShift (shift : Shift) : Type 0 where
  pub tai_most : shift.tai ≤ 1000
  pub delay_most : shift.delay ≤ 999999999

-- the capture timestamp after the shift, 0 if it would be below 0
abbrev pub shifted : Shift → ℕ → ℕ
shifted shift at = at + shift.tai * 10 ^ 9 - shift.delay

-- the capture timestamp that has this one after the shift, 0 if it would be below 0
abbrev pub unshifted : Shift → ℕ → ℕ
unshifted shift stamp = stamp + shift.delay - shift.tai * 10 ^ 9

-- no shift
abbrev pub no_shift : Shift
no_shift = record { tai = 0; delay = 0 }

-- the options of a flow: the shift, and whether its packets are numbered by their RTP sequence numbers alone
-- (`--seq16`)
pub record FlowOptions : Type 0 where
  pub shift : Shift
  pub seq16 : Bool

-- the shift is within its limits
abbrev pub AreFlowOptions : FlowOptions → Type 0
AreFlowOptions options = IsShift options.shift

-- the options without an option
abbrev pub no_options : FlowOptions
no_options = record { shift = no_shift; seq16 = false }
