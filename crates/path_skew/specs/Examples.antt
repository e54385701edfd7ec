-- Small flows and results for values worked by hand.
use Rattle.std.specs.Prelude.{ℕ, ℤ, false, List, [], ◌∷◌, Option, Some}
use Rattle.timing_base.specs.Examples.{sent}
use Rattle.timing_base.specs.declared.packet.FlowPacket.{FlowPacket}
use Rattle.path_skew.specs.declared.row.Extreme.{Extreme}
use Rattle.path_skew.specs.declared.row.SkewRow.{SkewRow}

-- a packet by packet record, capture timestamp and packet number
abbrev pub came : ℕ → ℕ → ℕ → FlowPacket
came rec at number = sent rec at number 0 false

-- a skew with its packet records
abbrev pub at_records : ℤ → ℕ → ℕ → Option Extreme
at_records skew first second = Some record { skew = skew; first_rec = first; second_rec = second }

-- a result: the counts of matched, first only, second only, repeated and unread, and the extremes
abbrev pub told : ℕ → ℕ → ℕ → ℕ → ℕ → Option Extreme → Option Extreme → SkewRow
told matched first_only second_only repeated unread least greatest = record {
  matched = matched;
  first_only = first_only;
  second_only = second_only;
  repeated = repeated;
  unread = unread;
  least = least;
  greatest = greatest;
}

-- four packets
abbrev pub four : List FlowPacket
four = came 1 1000 6 ∷ came 2 2000 7 ∷ came 3 3000 8 ∷ came 4 4000 9 ∷ []

-- the same packets on a path that is 150 ns longer, 900 ns for the third, and loses the last
abbrev pub three_later : List FlowPacket
three_later = came 1 1150 6 ∷ came 2 2150 7 ∷ came 3 3900 8 ∷ []
