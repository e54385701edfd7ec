-- The UDP datagram in an Ethernet frame. A place is a number of bytes from the frame's start; lengths are bytes.
-- From the standards: the places and meanings of the fields, IEEE 802.3, clause 3.2.6 (the type field), IEEE 802.1Q
-- (the tag), RFC 791, section 3.1 (IPv4) and RFC 768 (UDP).
-- This project's profile: there is at most one tag, of type 0x8100; a fragment has no datagram; a frame that was
-- captured up to its UDP ports has one. Its payload is empty if the UDP header is incomplete or the UDP length is
-- below 8 bytes. The checksums are ignored, and nothing depends on IPv4's total length.
use Rattle.std.specs.Prelude.{ℕ, ◌+◌, ◌-◌, ◌*◌, ◌/◌, ◌%◌, ◌^◌, ◌==◌, ◌&&◌, nat_le, Bool, if◌then◌else◌, List, length}
use Rattle.std.specs.Prelude.{take, drop, slice_index, Option, Some, None, Result, Ok, Err}
use Rattle.timing_base.specs.declared.target.Target.{Target}
use Rattle.udp_rtp.specs.Classes.{class_of}
use Rattle.udp_rtp.specs.Numbers.{number16, number32}
use Rattle.udp_rtp.specs.declared.class.FrameClass.{FrameClass}

-- a datagram
pub record Datagram : Type 0 where
  -- the destination address and port
  pub target : Target
  -- the source address and port
  pub source : Target
  -- the total length of IPv4
  pub length : ℕ
  -- the bytes of payload by the UDP length, whether or not they were captured; 0 if the UDP length wasn't captured
  pub stated : ℕ
  -- the payload, as far as it was captured
  pub payload : List ℕ

-- the place e of the IPv4 header: after a type field of 0x0800, with at most one tag (of type 0x8100) before it;
-- none, if there is no such type field
abbrev pub ip_place : List ℕ → Option ℕ
ip_place frame =
    if number16 frame 12 == 0x0800 then Some 14
    else if (number16 frame 12 == 0x8100) && (number16 frame 16 == 0x0800) then Some 18
    else None

-- the place u of the UDP header; IHL, the low four bits of byte e, counts 32-bit words
abbrev pub udp_place : List ℕ → ℕ → ℕ
udp_place frame e = e + 4 * (slice_index frame e % 16)

-- there is an IPv4 header at e, of version 4, with an IHL of at least 5 and protocol 17 (UDP). It is no fragment:
-- neither the flag MF nor any of the 13 bits of the fragment offset is set. The frame has at least the two ports of
-- the UDP header.
abbrev pub is_udp_at : List ℕ → ℕ → Bool
is_udp_at frame e =
    (slice_index frame e / 16 == 4)
    && nat_le 5 (slice_index frame e % 16)
    && (slice_index frame (e + 9) == 17)
    && (number16 frame (e + 6) % 2 ^ 14 == 0)
    && nat_le (udp_place frame e + 4) (length frame)

-- the payload of the UDP header at u, as far as it was captured; its length field includes the eight bytes of the
-- header
abbrev pub payload_at : List ℕ → ℕ → List ℕ
payload_at frame u = take (number16 frame (u + 4) - 8) (drop (u + 8) frame)

-- the bytes of payload by the length field of the UDP header at u
abbrev pub stated_at : List ℕ → ℕ → ℕ
stated_at frame u = if nat_le (u + 6) (length frame) then number16 frame (u + 4) - 8 else 0

-- the address at one place, and the port at another
abbrev pub end_at : List ℕ → (address port : ℕ) → Target
end_at frame address port = record { address = record { bits = number32 frame address }; port = number16 frame port }

-- the datagram with an IPv4 header at e. The source is in the bytes 12 to 15 of the IPv4 header and in the first 16
-- bits of the UDP header, the destination is behind each of these.
abbrev pub datagram_at : List ℕ → ℕ → Datagram
datagram_at frame e = record {
  target = end_at frame (e + 16) (udp_place frame e + 2);
  source = end_at frame (e + 12) (udp_place frame e);
  length = number16 frame (e + 2);
  stated = stated_at frame (udp_place frame e);
  payload = payload_at frame (udp_place frame e);
}

-- the datagram with an IPv4 header at this place, if there is one
abbrev pub datagram_from : List ℕ → Option ℕ → Option Datagram
datagram_from frame None = None
datagram_from frame (Some e) = if is_udp_at frame e then Some (datagram_at frame e) else None

-- the datagram of a frame, if there is one
abbrev pub datagram_of : List ℕ → Option Datagram
datagram_of frame = datagram_from frame (ip_place frame)

-- the datagram if there is one, or the class of the frame
abbrev pub datagram_or_class : List ℕ → Option Datagram → Result Datagram FrameClass
datagram_or_class frame None = Err (class_of frame)
datagram_or_class frame (Some d) = Ok d

-- what is read of a frame: its datagram, or the class of a frame that has none
abbrev pub frame_reading : List ℕ → Result Datagram FrameClass
frame_reading frame = datagram_or_class frame (datagram_of frame)
