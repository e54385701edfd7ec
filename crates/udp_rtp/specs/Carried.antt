-- Whether an Ethernet frame carries a packet that is known in advance. A place is a number of bytes from the frame's
-- start.
-- From the standards: the places and meanings of the fields, IEEE 802.3, clause 3.2.6, RFC 791, section 3.1 (IPv4),
-- RFC 768 (UDP), RFC 3550, section 5.1 (RTP) and RFC 4175, section 4.2 (the extended sequence number).
-- This project's profile: only a plain frame carries a packet, because each of its fields has one place.
-- `flow_packet` may find the same packet in a frame that isn't plain.
use Rattle.std.specs.Prelude.{ℕ, ◌+◌, ◌*◌, ◌%◌, ◌^◌, ◌==◌, ◌&&◌, nat_le, nat_lt, not, Bool, List, length, slice_index}
use Rattle.timing_base.specs.declared.packet.Rtp.{Rtp}
use Rattle.timing_base.specs.declared.target.Target.{Target}
use Rattle.udp_rtp.specs.Numbers.{number16, number32}

-- a UDP datagram over IPv4 without a tag, IPv4 options and fragments: version 4 and an IHL of 5 are 0x45
abbrev pub is_plain_udp : List ℕ → Bool
is_plain_udp frame =
    (number16 frame 12 == 0x0800)
    && (slice_index frame 14 == 0x45)
    && (number16 frame 20 % 2 ^ 14 == 0)
    && (slice_index frame 23 == 17)

-- the datagram goes to this address and port
abbrev pub goes_to : Target → List ℕ → Bool
goes_to target frame = (number32 frame 30 == target.address.bits) && (number16 frame 36 == target.port)

-- the UDP length includes at least the eight bytes of its header, the twelve of RTP and the extended sequence number;
-- RTP has version 2 and no padding, header extension or contributing sources: 0x80
abbrev pub is_plain_rtp : List ℕ → Bool
is_plain_rtp frame = nat_le 22 (number16 frame 38) && (slice_index frame 42 == 0x80)

-- the packet number of a plain frame: the extended sequence number times 65,536, plus the RTP sequence number
abbrev pub number : List ℕ → ℕ
number frame = number16 frame 54 * 2 ^ 16 + number16 frame 44

-- the fields of a plain frame are those of this packet, which has no marker, so that byte 43 is the payload type
abbrev pub has_fields : Rtp → List ℕ → Bool
has_fields rtp frame =
    not rtp.marker
    && nat_lt rtp.pt 128
    && (slice_index frame 43 == rtp.pt)
    && (number frame == rtp.number)
    && (number32 frame 46 == rtp.timestamp)
    && (number32 frame 50 == rtp.ssrc)

-- the frame is plain, was captured through the extended sequence number, and carries this packet to this target
abbrev pub carries : Target → Rtp → List ℕ → Bool
carries target rtp frame =
    nat_le 56 (length frame)
    && is_plain_udp frame
    && goes_to target frame
    && is_plain_rtp frame
    && has_fields rtp frame
