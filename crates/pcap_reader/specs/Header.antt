-- The file header of a classic pcap file: 24 bytes, of which the magic number, the version and the link type matter.
-- Places are bytes from the start of the header.
-- From pcap-savefile(5): the four magic numbers, the places and sizes of the fields, and that the link type is the
-- low 16 bits of its field.
-- This project's profile: only version 2.4 and Ethernet, and the order of the faults.
use Rattle.std.specs.Prelude.{ℕ, ◌^◌, ◌%◌, ◌==◌, nat_lt, if◌then◌else◌, List, length, drop, Option, Some, None, Result}
use Rattle.std.specs.Prelude.{Ok, Err}
use Rattle.byteorder.specs.Endian.{big_number, little_number}
use Rattle.timing_base.specs.declared.capture.PcapFault.{PcapFault}
use Rattle.timing_base.specs.declared.capture.PcapFault.TheVariants.{BadMagic, BadVersion, BadLink}
use Rattle.pcap_reader.specs.declared.layout.Order.{Order}
use Rattle.pcap_reader.specs.declared.layout.Order.TheVariants.{Big, Little}
use Rattle.pcap_reader.specs.declared.layout.Fraction.{Fraction}
use Rattle.pcap_reader.specs.declared.layout.Fraction.TheVariants.{Micros, Nanos}
use Rattle.pcap_reader.specs.declared.layout.Layout.{Layout}

-- the number in the first n bytes
abbrev pub number : Order → ℕ → List ℕ → ℕ
number Big n bytes = big_number n bytes
number Little n bytes = little_number n bytes

-- the number of these units in a second
abbrev pub per_second : Fraction → ℕ
per_second Micros = 10 ^ 6
per_second Nanos = 10 ^ 9

-- the nanoseconds of one unit
abbrev pub nanos : Fraction → ℕ
nanos Micros = 1000
nanos Nanos = 1

-- the layout of a magic number, given its four bytes as a big-endian number
abbrev pub layout_of : ℕ → Option Layout
layout_of magic =
    if magic == 0xa1b2c3d4 then Some (record { order = Big; fraction = Micros })
    else if magic == 0xd4c3b2a1 then Some (record { order = Little; fraction = Micros })
    else if magic == 0xa1b23c4d then Some (record { order = Big; fraction = Nanos })
    else if magic == 0x4d3cb2a1 then Some (record { order = Little; fraction = Nanos })
    else None

-- the header with this layout: its version is 2.4, and the low 16 bits of the link type are 1, Ethernet
abbrev pub header_by : Option Layout → List ℕ → Result Layout PcapFault
header_by None text = Err BadMagic
header_by (Some layout) text =
    if number layout.order 2 (drop 4 text) == 2 then
    (if number layout.order 2 (drop 6 text) == 4 then
    (if number layout.order 4 (drop 20 text) % 65536 == 1 then Ok layout else Err BadLink)
    else Err BadVersion)
    else Err BadVersion

-- the layout that a capture's header gives, or its first fault
abbrev pub header : List ℕ → Result Layout PcapFault
header text =
    if nat_lt (length text) 24 then Err BadMagic
    else header_by (layout_of (big_number 4 text)) text
