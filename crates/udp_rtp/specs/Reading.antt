-- The fields of a UDP payload, read as RTP. A place is a number of bytes from the payload's start.
-- From the standards: the fields and their places, RFC 3550, section 5.1 (the fixed header) and 5.3.1 (the header
-- extension), and RFC 4175, section 4.2 (the extended sequence number).
-- This project's profile: the order of the faults; padding and its bit are ignored.
use Rattle.std.specs.Prelude.{ℕ, ◌+◌, ◌*◌, ◌^◌, ◌/◌, ◌%◌, ◌==◌, nat_lt, Bool, if◌then◌else◌, List, length, slice_index}
use Rattle.std.specs.Prelude.{Result, Ok, Err}
use Rattle.udp_rtp.specs.Numbers.{number16, number32}
use Rattle.timing_base.specs.declared.packet.Rtp.{Rtp}
use Rattle.timing_base.specs.declared.packet.PacketFault.{PacketFault}
use Rattle.timing_base.specs.declared.packet.PacketFault.TheVariants.{Short, Version}

-- the end of the list of contributing sources, which CC, the low four bits of byte 0, counts
abbrev pub sources_end : List ℕ → ℕ
sources_end bytes = 12 + 4 * (slice_index bytes 0 % 16)

-- there is a header extension: the bit X, of value 16 in byte 0, is set
abbrev pub has_extension : List ℕ → Bool
has_extension bytes = slice_index bytes 0 / 16 % 2 == 1

-- the place of the RTP payload, which begins with the extended sequence number; a header extension begins with four
-- bytes, and the last two of them count the 32-bit words that follow
abbrev pub payload_place : List ℕ → ℕ
payload_place bytes =
    if has_extension bytes then
    sources_end bytes + 4 + 4 * number16 bytes (sources_end bytes + 2)
    else sources_end bytes

-- the fields of the fixed header, with an extended sequence number at this place
abbrev pub rtp_at : List ℕ → ℕ → Rtp
rtp_at bytes place = record {
  number = number16 bytes place * 2 ^ 16 + number16 bytes 2;
  timestamp = number32 bytes 4;
  marker = nat_lt 127 (slice_index bytes 1);
  pt = slice_index bytes 1 % 128;
  ssrc = number32 bytes 8;
}

-- the fields of a payload, or its first fault; if the start of a header extension is incomplete, so is the extended
-- sequence number
abbrev pub reading : List ℕ → Result Rtp PacketFault
reading bytes =
    if nat_lt (length bytes) 12 then Err Short
    else if slice_index bytes 0 / 64 == 2 then
    (if nat_lt (length bytes) (payload_place bytes + 2) then Err Short
    else Ok (rtp_at bytes (payload_place bytes)))
    else Err Version
