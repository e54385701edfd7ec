-- The packet records of a capture as the rest of the analyser sees them, and joined captures.
use Rattle.std.specs.Prelude.{ℕ, ◌+◌, ◌*◌, ◌^◌, ◌<◌, List, [], ◌∷◌, ◌++◌, length, map}

-- one packet record
pub record Record : Type 0 where
  -- its place in the file, counted from 1
  pub number : ℕ
  -- its capture timestamp, in nanoseconds since 1970-01-01 00:00:00
  pub stamp : ℕ
  -- its captured bytes
  pub bytes : List ℕ

-- a capture timestamp that a file can hold, in nanoseconds: its seconds have 32 bits (pcap-savefile(5))
abbrev pub IsStamp : ℕ → Type 0
IsStamp at = at < 2 ^ 32 * 10 ^ 9

-- a packet record with its number raised by this many
abbrev pub raised : ℕ → Record → Record
raised before r = record { number = before + r.number; stamp = r.stamp; bytes = r.bytes }

-- the records of captures, numbered on after this many
abbrev pub joined_after : ℕ → List (List Record) → List Record
joined_after before [] = []
joined_after before (c ∷ cs) = map (raised before) c ++ joined_after (before + length c) cs

-- the records of joined captures: those of one capture after the other, numbered on. Of a capture that is truncated
-- or refused there are the records before that place.
abbrev pub joined : List (List Record) → List Record
joined captures = joined_after 0 captures
