-- Small pcapng files laid out by hand, for examples.
use Rattle.std.specs.Prelude.{◌≡◌, ℕ, ◌+◌, List, [], ◌∷◌, ◌++◌, take, drop}
use Rattle.pcap_reader.specs.WrittenHeads.{file_head}
use Rattle.pcapng_reader.specs.Classic.{classic}

-- these bytes with another byte at this place
abbrev pub changed : ℕ → ℕ → List ℕ → List ℕ
changed place byte text = take place text ++ (byte ∷ drop (place + 1) text)

-- a section header of 28 bytes: type, total length, byte order, version 1.0, no section length, total length
abbrev pub little_section : List ℕ
little_section =
    0x0a ∷ 0x0d ∷ 0x0d ∷ 0x0a ∷ 28 ∷ 0 ∷ 0 ∷ 0 ∷ 0x4d ∷ 0x3c ∷ 0x2b ∷ 0x1a ∷ 1 ∷ 0 ∷ 0 ∷ 0
    ∷ 255 ∷ 255 ∷ 255 ∷ 255 ∷ 255 ∷ 255 ∷ 255 ∷ 255 ∷ 28 ∷ 0 ∷ 0 ∷ 0 ∷ []

-- the same section header, big-endian
abbrev pub big_section : List ℕ
big_section =
    0x0a ∷ 0x0d ∷ 0x0d ∷ 0x0a ∷ 0 ∷ 0 ∷ 0 ∷ 28 ∷ 0x1a ∷ 0x2b ∷ 0x3c ∷ 0x4d ∷ 0 ∷ 1 ∷ 0 ∷ 0
    ∷ 255 ∷ 255 ∷ 255 ∷ 255 ∷ 255 ∷ 255 ∷ 255 ∷ 255 ∷ 0 ∷ 0 ∷ 0 ∷ 28 ∷ []

-- an interface description of 20 bytes: type, total length, link type 1, reserved, snaplen, total length
abbrev pub little_interface : List ℕ
little_interface = 1 ∷ 0 ∷ 0 ∷ 0 ∷ 20 ∷ 0 ∷ 0 ∷ 0 ∷ 1 ∷ 0 ∷ 0 ∷ 0 ∷ 0 ∷ 0 ∷ 4 ∷ 0 ∷ 20 ∷ 0 ∷ 0 ∷ 0 ∷ []

-- the same interface description, big-endian
abbrev pub big_interface : List ℕ
big_interface = 0 ∷ 0 ∷ 0 ∷ 1 ∷ 0 ∷ 0 ∷ 0 ∷ 20 ∷ 0 ∷ 1 ∷ 0 ∷ 0 ∷ 0 ∷ 4 ∷ 0 ∷ 0 ∷ 0 ∷ 0 ∷ 0 ∷ 20 ∷ []

-- an interface description with options; `total` is 20 plus their length
abbrev pub interface_with : (total : ℕ) → List ℕ → List ℕ
interface_with total opts =
    1 ∷ 0 ∷ 0 ∷ 0 ∷ total ∷ 0 ∷ 0 ∷ 0 ∷ 1 ∷ 0 ∷ 0 ∷ 0 ∷ 0 ∷ 0 ∷ 4 ∷ 0 ∷ (opts ++ (total ∷ 0 ∷ 0 ∷ 0 ∷ []))

-- the same interface description, big-endian
abbrev pub big_interface_with : (total : ℕ) → List ℕ → List ℕ
big_interface_with total opts =
    0 ∷ 0 ∷ 0 ∷ 1 ∷ 0 ∷ 0 ∷ 0 ∷ total ∷ 0 ∷ 1 ∷ 0 ∷ 0 ∷ 0 ∷ 4 ∷ 0 ∷ 0 ∷ (opts ++ (0 ∷ 0 ∷ 0 ∷ total ∷ []))

-- the option with the unit of timestamps
abbrev pub resolution : ℕ → List ℕ
resolution n = 9 ∷ 0 ∷ 1 ∷ 0 ∷ n ∷ 0 ∷ 0 ∷ 0 ∷ []

-- the option with the offset of timestamps
abbrev pub offset : ℕ → List ℕ
offset n = 14 ∷ 0 ∷ 8 ∷ 0 ∷ n ∷ 0 ∷ 0 ∷ 0 ∷ 0 ∷ 0 ∷ 0 ∷ 0 ∷ []

-- an option of two bytes that is ignored
abbrev pub comment : List ℕ
comment = 1 ∷ 0 ∷ 2 ∷ 0 ∷ 9 ∷ 0 ∷ 1 ∷ 0 ∷ []

-- the end of the options
abbrev pub last_option : List ℕ
last_option = 0 ∷ 0 ∷ 0 ∷ 0 ∷ []

-- the option with the unit of timestamps, big-endian
abbrev pub big_resolution : ℕ → List ℕ
big_resolution n = 0 ∷ 9 ∷ 0 ∷ 1 ∷ n ∷ 0 ∷ 0 ∷ 0 ∷ []

-- the option with the offset of timestamps, big-endian
abbrev pub big_offset : ℕ → List ℕ
big_offset n = 0 ∷ 14 ∷ 0 ∷ 8 ∷ 0 ∷ 0 ∷ 0 ∷ 0 ∷ 0 ∷ 0 ∷ 0 ∷ n ∷ []

-- an option of two bytes that is ignored, big-endian
abbrev pub big_comment : List ℕ
big_comment = 0 ∷ 1 ∷ 0 ∷ 2 ∷ 9 ∷ 0 ∷ 1 ∷ 0 ∷ []

-- an interface with timestamps in nanoseconds
abbrev pub nano_interface : List ℕ
nano_interface = interface_with 28 (resolution 9)

-- an interface with an option for timestamps in microseconds
abbrev pub micro_interface : List ℕ
micro_interface = interface_with 28 (resolution 6)

-- a packet block of 36 bytes: type, total length, interface, timestamp high and low, 3 bytes captured of 60, these
-- bytes and one of padding, total length
abbrev pub packet_at : (high low : List ℕ) → List ℕ
packet_at high low =
    6 ∷ 0 ∷ 0 ∷ 0 ∷ 36 ∷ 0 ∷ 0 ∷ 0 ∷ 0 ∷ 0 ∷ 0 ∷ 0 ∷ (high ++ (low ++
    (3 ∷ 0 ∷ 0 ∷ 0 ∷ 60 ∷ 0 ∷ 0 ∷ 0 ∷ 7 ∷ 8 ∷ 9 ∷ 0 ∷ 36 ∷ 0 ∷ 0 ∷ 0 ∷ [])))

-- a packet at timestamp 3,000,000,005
abbrev pub little_packet : List ℕ
little_packet = packet_at (0 ∷ 0 ∷ 0 ∷ 0 ∷ []) (0x05 ∷ 0x5e ∷ 0xd0 ∷ 0xb2 ∷ [])

-- the same packet block, big-endian
abbrev pub big_packet_at : (high low : List ℕ) → List ℕ
big_packet_at high low =
    0 ∷ 0 ∷ 0 ∷ 6 ∷ 0 ∷ 0 ∷ 0 ∷ 36 ∷ 0 ∷ 0 ∷ 0 ∷ 0 ∷ (high ++ (low ++
    (0 ∷ 0 ∷ 0 ∷ 3 ∷ 0 ∷ 0 ∷ 0 ∷ 60 ∷ 7 ∷ 8 ∷ 9 ∷ 0 ∷ 0 ∷ 0 ∷ 0 ∷ 36 ∷ [])))

-- a packet at timestamp 3,000,005
abbrev pub micro_packet : List ℕ
micro_packet = packet_at (0 ∷ 0 ∷ 0 ∷ 0 ∷ []) (0xc5 ∷ 0xc6 ∷ 0x2d ∷ 0x00 ∷ [])

-- a packet at timestamp 3,000,005, big-endian
abbrev pub big_packet : List ℕ
big_packet = big_packet_at (0 ∷ 0 ∷ 0 ∷ 0 ∷ []) (0x00 ∷ 0x2d ∷ 0xc6 ∷ 0xc5 ∷ [])

-- a packet at timestamp 3,000,005,000
abbrev pub nano_packet : List ℕ
nano_packet = packet_at (0 ∷ 0 ∷ 0 ∷ 0 ∷ []) (0x88 ∷ 0x71 ∷ 0xd0 ∷ 0xb2 ∷ [])

-- a packet at timestamp 3,000,005,000, big-endian
abbrev pub big_nano_packet : List ℕ
big_nano_packet = big_packet_at (0 ∷ 0 ∷ 0 ∷ 0 ∷ []) (0xb2 ∷ 0xd0 ∷ 0x71 ∷ 0x88 ∷ [])

-- this packet, of interface 1
abbrev pub of_second : List ℕ → List ℕ
of_second packet = changed 8 1 packet

-- a block of another type, of 16 bytes
abbrev pub other_block : List ℕ
other_block = 5 ∷ 0 ∷ 0 ∷ 0 ∷ 16 ∷ 0 ∷ 0 ∷ 0 ∷ 1 ∷ 2 ∷ 3 ∷ 4 ∷ 16 ∷ 0 ∷ 0 ∷ 0 ∷ []

-- a packet record of 3 bytes at 3 seconds and 5 nanoseconds
abbrev pub nano_record : List ℕ
nano_record = 3 ∷ 0 ∷ 0 ∷ 0 ∷ 5 ∷ 0 ∷ 0 ∷ 0 ∷ 3 ∷ 0 ∷ 0 ∷ 0 ∷ 3 ∷ 0 ∷ 0 ∷ 0 ∷ 7 ∷ 8 ∷ 9 ∷ []

-- a packet record of 3 bytes at 3 seconds and 5 microseconds
abbrev pub micro_record : List ℕ
micro_record = 3 ∷ 0 ∷ 0 ∷ 0 ∷ 0x88 ∷ 0x13 ∷ 0 ∷ 0 ∷ 3 ∷ 0 ∷ 0 ∷ 0 ∷ 3 ∷ 0 ∷ 0 ∷ 0 ∷ 7 ∷ 8 ∷ 9 ∷ []

-- a packet record without bytes at 3 seconds and 5 nanoseconds, as of a packet that isn't Ethernet
abbrev pub bare_nano_record : List ℕ
bare_nano_record = 3 ∷ 0 ∷ 0 ∷ 0 ∷ 5 ∷ 0 ∷ 0 ∷ 0 ∷ 0 ∷ 0 ∷ 0 ∷ 0 ∷ 0 ∷ 0 ∷ 0 ∷ 0 ∷ []

-- a packet record without bytes at 3 seconds and 5 microseconds
abbrev pub bare_micro_record : List ℕ
bare_micro_record = 3 ∷ 0 ∷ 0 ∷ 0 ∷ 0x88 ∷ 0x13 ∷ 0 ∷ 0 ∷ 0 ∷ 0 ∷ 0 ∷ 0 ∷ 0 ∷ 0 ∷ 0 ∷ 0 ∷ []

-- the header of a packet record with 2^32 - 1 captured bytes
abbrev pub bad : List ℕ
bad = 0 ∷ 0 ∷ 0 ∷ 0 ∷ 0 ∷ 0 ∷ 0 ∷ 0 ∷ 255 ∷ 255 ∷ 255 ∷ 255 ∷ 0 ∷ 0 ∷ 0 ∷ 0 ∷ []

-- the header of a packet record with 2^32 - 1 nanoseconds
abbrev pub untold : List ℕ
untold = 0 ∷ 0 ∷ 0 ∷ 0 ∷ 255 ∷ 255 ∷ 255 ∷ 255 ∷ 0 ∷ 0 ∷ 0 ∷ 0 ∷ 0 ∷ 0 ∷ 0 ∷ 0 ∷ []

-- a pcapng file has this classic form after the file header
abbrev pub Gives : List ℕ → List ℕ → Type 0
Gives file records = classic file ≡ file_head ++ records
