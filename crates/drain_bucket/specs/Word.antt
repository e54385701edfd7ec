-- The leaky bucket of the network compatibility model (SMPTE ST 2110-21), tick by tick. m is the video, n the packets
-- per frame or field, and stamps the capture timestamps of the judged packets, in nanoseconds. Packets count from 0.
use Rattle.std.specs.Prelude.{ℕ, zero, suc, ◌+◌, ◌-◌, List, [], ◌∷◌, ◌++◌, replicate}
use Rattle.timing_base.specs.Media.{Media}
use Rattle.sender_params.specs.Ticks.{ticks_at}

-- an event at the bucket
pub data Event : Type 0 where
  -- a drain tick
  tick : Event
  -- the arrival of a packet
  arrive : Event

-- a tick takes a packet out, and is lost on an empty bucket; an arrival puts one in
abbrev pub after : Event → ℕ → ℕ
after tick count = count - 1
after arrive count = count + 1

-- the count after all events, in order
abbrev pub level : ℕ → List Event → ℕ
level count [] = count
level count (e ∷ es) = level (after e count) es

-- the events up to packet i; `clock` k is the number of ticks up to packet k. For each packet they are the ticks since
-- the packet before, and then its arrival: a tick at the same instant comes first.
abbrev pub word : (ℕ → ℕ) → ℕ → List Event
word clock zero = arrive ∷ []
word clock (suc i) = word clock i ++ (replicate (clock (i + 1) - clock i) tick ++ arrive ∷ [])

-- the count after packet i
abbrev pub count_after : (ℕ → ℕ) → ℕ → ℕ
count_after clock i = level 0 (word clock i)

-- the packets in the bucket just after packet i came
abbrev pub bucket_of : Media → ℕ → List ℕ → ℕ → ℕ
bucket_of m n stamps i = count_after (ticks_at m n stamps) i
