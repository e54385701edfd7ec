-- The classic form of a capture file: of a pcapng file the classic capture with the packet records of its packet
-- blocks, of any other file its own bytes. Places and lengths are bytes, timestamps are nanoseconds since 1970-01-01
-- 00:00:00.
-- From draft-ietf-opsawg-pcapng: the form of blocks (section 3.1) and options (section 3.5), the section header block
-- (4.1), the interface description block with the options if_tsresol (9) and if_tsoffset (14) (section 4.2), the
-- enhanced packet block (4.3).
-- This project's profile: the order of the faults, and that nothing is read after a fault; timestamps in decimal
-- units of a nanosecond or more, without an offset; at most 1,024 interfaces in a section, 262,144 bytes in a packet
-- and 2^41 bytes in a file; packets of other link types give packet records without bytes. A truncated file gives a
-- truncated packet record. A fault gives the header of a packet record that no reader accepts: with 2^32 - 1 captured
-- bytes, or for a timestamp that can't be represented with 2^32 - 1 nanoseconds.
use Rattle.std.specs.Prelude.{ℕ, zero, suc, ◌+◌, ◌-◌, ◌*◌, ◌^◌, ◌%◌, ◌==◌, nat_lt, nat_le, Bool, true, not, ◌&&◌, ◌||◌}
use Rattle.std.specs.Prelude.{if◌then◌else◌, List, [], ◌∷◌, ◌++◌, length, take, drop, slice_index, slice_get, Option}
use Rattle.std.specs.Prelude.{Some, None}
use Rattle.std.specs.Option.{option_map, option_map_or}
use Rattle.std.specs.List.{list_all}
use Rattle.byteorder.specs.Endian.{big_number, little_number, little_bytes}
use Rattle.pcap_reader.specs.WrittenHeads.{file_head, record_head}
use Rattle.pcapng_reader.specs.declared.block.Order.{Order}
use Rattle.pcapng_reader.specs.declared.block.Order.TheVariants.{Big, Little}
use Rattle.pcapng_reader.specs.declared.block.Kind.{Kind}
use Rattle.pcapng_reader.specs.declared.block.Kind.TheVariants as kind
use Rattle.pcapng_reader.specs.declared.block.Interface.{Interface}

-- the number in the n bytes at a place
abbrev pub number : Order → ℕ → ℕ → List ℕ → ℕ
number Big n place bytes = big_number n (drop place bytes)
number Little n place bytes = little_number n (drop place bytes)

-- the bytes begin with a section header
abbrev pub begins_section : List ℕ → Bool
begins_section bytes = nat_le 4 (length bytes) && (number Big 4 0 bytes == 0x0a0d0d0a)

-- the state of a section before one of its blocks: the byte order, and the interfaces described so far, the first of
-- which has number 0
pub record Section : Type 0 where
  pub order : Order
  pub interfaces : List Interface

-- the result of a block: bytes of the classic form, and the section of the next block, or none if the output ends
pub record Given : Type 0 where
  pub bytes : List ℕ
  pub next : Option Section

-- the end of a file between two blocks
abbrev pub ended : Given
ended = record { bytes = []; next = None }

-- the end of a file within a block: one byte, which is less than the header of a packet record
abbrev pub cut : Given
cut = record { bytes = 0 ∷ []; next = None }

-- the header of a packet record: second 0, this fraction, this captured length, and the original length 0
abbrev pub bare_head : (fraction captured : ℕ) → List ℕ
bare_head fraction captured =
    little_bytes 4 0 ++ little_bytes 4 fraction ++ little_bytes 4 captured ++ little_bytes 4 0

-- a malformed block, which gives too large a captured length
abbrev pub broken : Given
broken = record { bytes = bare_head 0 (2 ^ 32 - 1); next = None }

-- a timestamp that can't be represented, which gives too large a fraction
abbrev pub late : Given
late = record { bytes = bare_head (2 ^ 32 - 1) 0; next = None }

-- a block that gives these bytes; the section stays as it is
abbrev pub gives : List ℕ → Section → Given
gives bytes section = record { bytes = bytes; next = Some section }

-- an option of a block, and its value without padding
pub record BlockOption : Type 0 where
  pub code : ℕ
  pub value : List ℕ

-- a size in bytes, rounded up to a multiple of 4
abbrev pub padded : ℕ → ℕ
padded n = n + (4 - n % 4) % 4

-- the options in the last bytes of a block's body, up to code 0 or the end of the body; none, if an option exceeds
-- that end. Only the first `most` options are read.
abbrev pub options_by : (most : ℕ) → Order → List ℕ → Option (List BlockOption)
options_by zero order bytes = Some []
options_by (suc most) order bytes =
    let size = number order 2 2 bytes in
    if nat_lt (length bytes) 4 || (number order 2 0 bytes == 0) then Some []
    else if nat_lt (length bytes) (4 + size) then None
    else option_map
    (λ later. record { code = number order 2 0 bytes; value = take size (drop 4 bytes) } ∷ later)
    (options_by most order (drop (4 + padded size) bytes))

-- all options in the last bytes of a block's body; each has at least 4 bytes, so `most` is no limit
unfoldable pub options : Order → List ℕ → Option (List BlockOption)
options order bytes = options_by (length bytes) order bytes

-- an option that is read has the right length: 1 byte for the unit, 8 bytes for the offset
abbrev pub is_formed : BlockOption → Bool
is_formed o =
    if o.code == 9 then length o.value == 1
    else if o.code == 14 then length o.value == 8
    else true

-- the value of the first option with this code
abbrev pub first_value : ℕ → List BlockOption → Option (List ℕ)
first_value code [] = None
first_value code (o ∷ later) = if o.code == code then Some o.value else first_value code later

-- the interface with these options; without them the unit is 10^-6 seconds and the offset 0
abbrev pub interface_by : Order → (link : ℕ) → Option (List BlockOption) → Option Interface
interface_by order link None = None
interface_by order link (Some os) =
    if list_all is_formed os then Some (record {
      offset = option_map_or (number order 8 0) (first_value 14 os) 0;
      link = link;
      resolution = option_map_or (λ value. slice_index value 0) (first_value 9 os) 6;
    })
    else None

-- the bytes of a block from a place up to the second total length
abbrev pub body_from : ℕ → List ℕ → List ℕ
body_from place block = take (length block - 4 - place) (drop place block)

-- the interface that a block describes; none, if the block is malformed
abbrev pub described : Order → List ℕ → Option Interface
described order block =
    interface_by order (number order 2 8 block) (options order (body_from 16 block))

-- the section with this interface added; it has at most 1,024
abbrev pub add_interface : Section → Option Interface → Given
add_interface section None = broken
add_interface section (Some i) =
    if nat_lt (length section.interfaces) 1024
    then gives [] (record { order = section.order; interfaces = section.interfaces ++ i ∷ [] })
    else broken

-- a timestamp of an interface in nanoseconds, if its unit is at least one
abbrev pub nanos : Interface → (stamp : ℕ) → ℕ
nanos i stamp = stamp * 10 ^ (9 - i.resolution)

-- a classic capture can't represent this timestamp of an interface
abbrev pub is_late : Interface → (stamp : ℕ) → Bool
is_late i stamp =
    nat_lt 9 i.resolution || (not (i.offset == 0) || nat_le (2 ^ 32 * 10 ^ 9) (nanos i stamp))

-- the packet record of a packet of this interface; without bytes, if the link type isn't Ethernet, 1
abbrev pub record_by : Interface → (stamp : ℕ) → List ℕ → List ℕ
record_by i stamp bytes =
    if i.link == 1 then record_head (nanos i stamp) (length bytes) ++ bytes
    else record_head (nanos i stamp) 0

-- the result of a packet block of this interface
abbrev pub packet_by : Option Interface → Order → Section → List ℕ → Given
packet_by None order section block = broken
packet_by (Some i) order section block =
    let stamp = number order 4 12 block * 2 ^ 32 + number order 4 16 block in
    let captured = number order 4 20 block in
    if nat_lt 262144 captured || nat_lt (length block - 4) (28 + captured) then broken
    else if is_late i stamp then late
    else gives (record_by i stamp (take captured (drop 28 block))) section

-- the result of a block that is complete
abbrev pub content : Kind → Order → Section → List ℕ → Given
content kind.Section order section block =
    if number order 2 12 block == 1 then gives [] (record { order = order; interfaces = [] }) else broken
content kind.Interface order section block = add_interface section (described order block)
content kind.Packet order section block =
    packet_by (slice_get section.interfaces (number order 4 8 block)) order section block
content kind.Other order section block = gives [] section

-- the kind of a block of this type
abbrev pub kind_by : (type : ℕ) → Kind
kind_by type =
    if type == 0x0a0d0d0a then kind.Section
    else if type == 1 then kind.Interface
    else if type == 6 then kind.Packet
    else kind.Other

-- the kind of the block at the start of a rest
abbrev pub kind_of : Order → List ℕ → Kind
kind_of order rest = kind_by (number order 4 0 rest)

-- the least length of a block of this kind
abbrev pub least_length : Kind → ℕ
least_length kind.Section = 28
least_length kind.Interface = 20
least_length kind.Packet = 32
least_length kind.Other = 12

-- a block of this kind can have this total length
abbrev pub is_length : Kind → ℕ → Bool
is_length kind total = (total % 4 == 0) && nat_le (least_length kind) total

-- the byte order that a section's magic gives
abbrev pub order_of : List ℕ → Option Order
order_of rest =
    if number Big 4 8 rest == 0x1a2b3c4d then Some Big
    else if number Little 4 8 rest == 0x1a2b3c4d then Some Little
    else None

-- the byte order of the block at the start of a rest; a section header has its own
abbrev pub order_by : Order → List ℕ → Option Order
order_by order rest = if begins_section rest then order_of rest else Some order

-- the result of the block at the start of a rest, with this byte order, kind and total length; the length is at both
-- of its ends
abbrev pub sized_block : Order → Kind → (total : ℕ) → Section → List ℕ → Given
sized_block order kind total section rest =
    if not (is_length kind total) then broken
    else if nat_lt (length rest) total then cut
    else if not (number order 4 (total - 4) rest == total) then broken
    else content kind order section (take total rest)

-- the result of the block at the start of a rest, with this byte order
abbrev pub ordered_block : Option Order → Section → List ℕ → Given
ordered_block None section rest = broken
ordered_block (Some order) section rest =
    sized_block order (kind_of order rest) (number order 4 4 rest) section rest

-- the result of the block at the start of a rest
abbrev pub block : Section → List ℕ → Given
block section rest =
    if length rest == 0 then ended
    else if nat_lt (length rest) 12 then cut
    else ordered_block (order_by section.order rest) section rest

-- the total length of the block at the start of a rest
abbrev pub total_by : Option Order → List ℕ → ℕ
total_by None rest = 0
total_by (Some order) rest = number order 4 4 rest

-- the bytes that a block gives, and those of the blocks after it
abbrev pub go_on : (Section → List ℕ) → Given → List ℕ
go_on later given = given.bytes ++ option_map_or later given.next []

-- the classic form of the blocks of a rest; only the first `most` blocks are read
abbrev pub blocks_by : (most : ℕ) → Section → List ℕ → List ℕ
blocks_by zero section rest = []
blocks_by (suc most) section rest =
    go_on (λ next. blocks_by most next (drop (total_by (order_by section.order rest) rest) rest))
    (block section rest)

-- the classic form of all blocks of a rest; each block with another after it has at least 12 bytes, so `most` is no
-- limit
unfoldable pub blocks : Section → List ℕ → List ℕ
blocks section rest = blocks_by (length rest) section rest

-- the state before the first block of a file, which sets the byte order
abbrev pub no_section : Section
no_section = record { order = Little; interfaces = [] }

-- the classic form of a file
unfoldable pub classic : List ℕ → List ℕ
classic bytes =
    if begins_section bytes then file_head ++ blocks no_section (take (2 ^ 41) bytes)
    else bytes

-- the classic form of the contents of each name
abbrev pub classic_texts : (List ℕ → Option (List ℕ)) → List ℕ → Option (List ℕ)
classic_texts texts name = option_map classic (texts name)
