-- The next expected packet of a flow, as numbers at three places of a plain frame (places as in `Carried`; numbers of
-- eight bytes, the most significant byte first: RFC 791, appendix B).
-- This project's own form, for fewer comparisons: `destination` is bytes 30 to 37 with zeros for the source port,
-- `head` is bytes 42 to 45, `timestamp` is bytes 46 to 49, and `rest` is bytes 48 to 55, which overlap those.
-- Packet numbers are those in the bytes, also of a flow that is judged by counted numbers (`--seq16`).
use Rattle.std.specs.Prelude.{ℕ, ◌+◌, ◌*◌, ◌/◌, ◌%◌, ◌^◌, ◌==◌, ◌&&◌, ◌||◌, if◌then◌else◌}
use Rattle.std.specs.Prelude.{nat_le, nat_lt, not, false, Bool, List, drop, Option, Some, None}
use Rattle.timing_base.specs.Flows.{next_number}
use Rattle.timing_base.specs.declared.packet.Rtp.{Rtp}
use Rattle.timing_base.specs.declared.target.Target.{Target}
use Rattle.byteorder.specs.Endian.{big_number}
use Rattle.udp_rtp.specs.Carried.{carries, is_plain_udp}
use Rattle.udp_rtp.specs.Numbers.{number16, number32}
use Rattle.udp_rtp.specs.declared.awaited.Awaited.{Awaited}

-- the expected packet
abbrev pub packet_of : Awaited → Rtp
packet_of a = record {
  number = a.rest % 2 ^ 16 * 2 ^ 16 + a.head % 2 ^ 16;
  timestamp = a.timestamp;
  marker = false;
  pt = a.head / 2 ^ 16 % 2 ^ 8;
  ssrc = a.rest / 2 ^ 16 % 2 ^ 32;
}

-- the target of the expected packet
abbrev pub target_of : Awaited → Target
target_of a = record { address = record { bits = a.destination / 2 ^ 32 }; port = a.destination % 2 ^ 16 }

-- the expected packet and its target; none, if the place of the source port isn't zero
abbrev pub awaited : Awaited → Option (Target × Rtp)
awaited a = if a.destination / 2 ^ 16 % 2 ^ 16 == 0 then Some (target_of a, packet_of a) else None

-- the frame carries the expected packet
abbrev pub carries_awaited : Option (Target × Rtp) → List ℕ → Bool
carries_awaited None frame = false
carries_awaited (Some (target, p)) frame = carries target p frame

-- the expected packet in a form that a plain frame can be compared with: it has no marker, and a payload type of 7
-- bits
abbrev pub awaited_of : Target → Option Rtp → Option (Target × Rtp)
awaited_of target None = None
awaited_of target (Some p) = if p.marker || not (nat_lt p.pt 128) then None else Some (target, p)

-- the packet expected after it: the one with the next number, or none if the low half of the number starts again
abbrev pub awaited_after : Option (Target × Rtp) → Option (Target × Rtp)
awaited_after None = None
awaited_after (Some (target, p)) = if p.number % 2 ^ 16 == 65535 then None else Some (
  target,
  record {
    number = next_number p.number;
    timestamp = p.timestamp;
    marker = p.marker;
    pt = p.pt;
    ssrc = p.ssrc;
  },
)

-- a plain frame has these numbers at their places
abbrev pub has_numbers : Awaited → List ℕ → Bool
has_numbers a frame =
    is_plain_udp frame
    && (number32 frame 30 * 2 ^ 32 + number16 frame 36 == a.destination)
    && nat_le 22 (number16 frame 38)
    && (big_number 8 (drop 42 frame) == a.head * 2 ^ 32 + a.timestamp)
    && (big_number 8 (drop 48 frame) == a.rest)
