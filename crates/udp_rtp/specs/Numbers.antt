-- The numbers in the bytes of a header, in network byte order: the most significant byte first (RFC 791, appendix B).
-- A place is a number of bytes from the start.
use Rattle.std.specs.Prelude.{ℕ, List, drop}
use Rattle.byteorder.specs.Endian.{big_number}

-- the 16 bits at a place
abbrev pub number16 : List ℕ → ℕ → ℕ
number16 bytes place = big_number 2 (drop place bytes)

-- the 32 bits at a place
abbrev pub number32 : List ℕ → ℕ → ℕ
number32 bytes place = big_number 4 (drop place bytes)
