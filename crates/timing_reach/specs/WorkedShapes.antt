-- Packets and packet records of the examples of `shape` that are worked by hand. Capture timestamps and departures are
-- nanoseconds.
use Rattle.std.specs.Prelude.{ℕ, List, [], ◌∷◌, ◌+◌, ◌*◌, ◌^◌, replicate}
use Rattle.timing_base.specs.Captures.{Record}
use Rattle.timing_base.specs.Shifts.{Shift}
use Rattle.timing_base.specs.Judged.{JudgedRun}

-- a run of packets with these capture timestamps, behind a head of one
abbrev pub run_of_stamps : List ℕ → JudgedRun
run_of_stamps stamps = record { n = 20; groups = 1; head = 1; tail = 0; stamps = stamps }

-- this many packets in the last nanosecond that a capture can have as a timestamp
abbrev pub last_nanosecond : ℕ → List ℕ
last_nanosecond count = replicate count 4294967295999999999

-- a packet record with this capture timestamp
abbrev pub record_at : (seconds nanos : ℕ) → List ℕ → Record
record_at seconds nanos bytes = record { number = 1; stamp = seconds * 10 ^ 9 + nanos; bytes = bytes }

-- a flow of five packets: one with the marker before the judged ones, two judged ones, and two behind them
abbrev pub five_records : List Record
five_records = record_at 5 9 (0xaa ∷ []) ∷ record_at 6 0 (1 ∷ []) ∷ record_at 6 0 (2 ∷ 3 ∷ []) ∷ record_at 6 0 (4 ∷ [])
    ∷ record_at 9 0 (5 ∷ []) ∷ []

-- a clock one second behind, without a delay and with one of 7 nanoseconds
abbrev pub second_behind : Shift
second_behind = record { tai = 1; delay = 0 }

abbrev pub second_behind_delayed : Shift
second_behind_delayed = record { tai = 1; delay = 7 }

-- departures of the two judged ones, in nanoseconds after the shift
abbrev pub two_departures : List ℕ
two_departures = 7000000001 ∷ 8000000002 ∷ []
