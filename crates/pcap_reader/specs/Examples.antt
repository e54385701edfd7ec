-- Small captures laid out by hand, for examples.
use Rattle.std.specs.Prelude.{ℕ, ◌+◌, List, [], ◌∷◌, ◌++◌, take, drop}

-- what follows the magic number, little-endian: version 2.4, snaplen 262,144, link type 1
abbrev pub little_fields : List ℕ
little_fields =
    2 ∷ 0 ∷ 4 ∷ 0 ∷ 0 ∷ 0 ∷ 0 ∷ 0 ∷ 0 ∷ 0 ∷ 0 ∷ 0 ∷ 0 ∷ 0 ∷ 4 ∷ 0 ∷ 1 ∷ 0 ∷ 0 ∷ 0 ∷ []

-- what follows the magic number, big-endian, with high bits set in the link type
abbrev pub big_fields : List ℕ
big_fields =
    0 ∷ 2 ∷ 0 ∷ 4 ∷ 0 ∷ 0 ∷ 0 ∷ 0 ∷ 0 ∷ 0 ∷ 0 ∷ 0 ∷ 0 ∷ 4 ∷ 0 ∷ 0 ∷ 0xf0 ∷ 0 ∷ 0 ∷ 1 ∷ []

-- a file header: little-endian, microseconds
abbrev pub little_micros : List ℕ
little_micros = 0xd4 ∷ 0xc3 ∷ 0xb2 ∷ 0xa1 ∷ little_fields

-- a file header: little-endian, nanoseconds
abbrev pub little_nanos : List ℕ
little_nanos = 0x4d ∷ 0x3c ∷ 0xb2 ∷ 0xa1 ∷ little_fields

-- a file header: big-endian, microseconds
abbrev pub big_micros : List ℕ
big_micros = 0xa1 ∷ 0xb2 ∷ 0xc3 ∷ 0xd4 ∷ big_fields

-- a file header: big-endian, nanoseconds
abbrev pub big_nanos : List ℕ
big_nanos = 0xa1 ∷ 0xb2 ∷ 0x3c ∷ 0x4d ∷ big_fields

-- a packet record, little-endian: 3 seconds, 5 units, 3 bytes captured of 60, and these bytes
abbrev pub little_record : List ℕ
little_record = 3 ∷ 0 ∷ 0 ∷ 0 ∷ 5 ∷ 0 ∷ 0 ∷ 0 ∷ 3 ∷ 0 ∷ 0 ∷ 0 ∷ 60 ∷ 0 ∷ 0 ∷ 0 ∷ 7 ∷ 8 ∷ 9 ∷ []

-- a packet record, big-endian: 3 seconds, 5 units, 1 byte captured of 1, and this byte
abbrev pub big_record : List ℕ
big_record = 0 ∷ 0 ∷ 0 ∷ 3 ∷ 0 ∷ 0 ∷ 0 ∷ 5 ∷ 0 ∷ 0 ∷ 0 ∷ 1 ∷ 0 ∷ 0 ∷ 0 ∷ 1 ∷ 7 ∷ []

-- these bytes with another byte at this place
abbrev pub changed : ℕ → ℕ → List ℕ → List ℕ
changed place byte text = take place text ++ (byte ∷ drop (place + 1) text)

-- the header of a packet record, little-endian, at 3 seconds, with these four bytes as the fraction and these four as
-- the captured length
abbrev pub head : List ℕ → List ℕ → List ℕ
head fraction captured = (3 ∷ 0 ∷ 0 ∷ 0 ∷ []) ++ (fraction ++ (captured ++ (60 ∷ 0 ∷ 0 ∷ 0 ∷ [])))

-- the little-endian number 0
abbrev pub zero_bytes : List ℕ
zero_bytes = 0 ∷ 0 ∷ 0 ∷ 0 ∷ []

-- the little-endian number 1
abbrev pub one_byte : List ℕ
one_byte = 1 ∷ 0 ∷ 0 ∷ 0 ∷ []

-- the little-endian number 262,144
abbrev pub most_bytes : List ℕ
most_bytes = 0 ∷ 0 ∷ 4 ∷ 0 ∷ []

-- the little-endian number 262,145
abbrev pub too_many_bytes : List ℕ
too_many_bytes = 1 ∷ 0 ∷ 4 ∷ 0 ∷ []

-- the little-endian number 999,999
abbrev pub last_micro : List ℕ
last_micro = 0x3f ∷ 0x42 ∷ 0x0f ∷ 0 ∷ []

-- the little-endian number 1,000,000
abbrev pub million : List ℕ
million = 0x40 ∷ 0x42 ∷ 0x0f ∷ 0 ∷ []

-- the little-endian number 999,999,999
abbrev pub last_nano : List ℕ
last_nano = 0xff ∷ 0xc9 ∷ 0x9a ∷ 0x3b ∷ []

-- the little-endian number 1,000,000,000
abbrev pub milliard : List ℕ
milliard = 0 ∷ 0xca ∷ 0x9a ∷ 0x3b ∷ []
