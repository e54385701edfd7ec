-- The result of reading a packet record: a frame without a target, a packet that isn't read as RTP, or an RTP packet.
-- Places and lengths are bytes.
-- From the standards: RFC 4175, section 4.3 (the line headers: length, the field bit F with the line number, and the
-- bit C with the offset, 16 bits each). Datagrams and the classes of frames without one are those of udp_rtp.
-- This project's profile: only the first line header of a packet is read, and only within the payload by the UDP
-- length; which line headers fit raw video.
use Rattle.std.specs.Prelude.{ℕ, ◌+◌, ◌%◌, ◌^◌, ◌&&◌, nat_le, nat_lt, if◌then◌else◌, List, length}
use Rattle.std.specs.Prelude.{Option, Some, None, Result, Ok, Err}
use Rattle.timing_base.specs.Captures.{Record}
use Rattle.timing_base.specs.declared.packet.PacketFault.{PacketFault}
use Rattle.timing_base.specs.declared.packet.Rtp.{Rtp}
use Rattle.udp_rtp.specs.Frames.{Datagram, frame_reading}
use Rattle.udp_rtp.specs.Numbers.{number16}
use Rattle.udp_rtp.specs.Reading.{payload_place, reading}
use Rattle.udp_rtp.specs.declared.class.FrameClass.{FrameClass}
use Rattle.capture_scan.specs.declared.packet.Line.{Line}
use Rattle.capture_scan.specs.declared.packet.Packet.{Packet}
use Rattle.capture_scan.specs.declared.packet.Seen.{Seen}
use Rattle.capture_scan.specs.declared.packet.Seen.TheVariants.{PassedOver, Unread, Read}

-- the line header at a place: 16 bits of length, one bit for the second field, and 15 bits of line number. It fits raw
-- video if `stated` bytes of UDP data reach to the end of its line data, and its number is at most 4,319.
abbrev pub line_at : (stated : ℕ) → List ℕ → ℕ → Line
line_at stated payload place = record {
  number = number16 payload (place + 2) % 2 ^ 15;
  second_field = nat_lt 32767 (number16 payload (place + 2));
  fits = nat_le (place + 6 + number16 payload place) stated && nat_le (number16 payload (place + 2) % 2 ^ 15) 4319;
}

-- the first line header, behind the extended sequence number, if all its six bytes were captured
abbrev pub first_line : (stated : ℕ) → List ℕ → Option Line
first_line stated payload =
    if nat_le (payload_place payload + 8) (length payload) then
    Some (line_at stated payload (payload_place payload + 2))
    else None

-- the numbers that are counted of a packet, in a record with this number and capture timestamp
abbrev pub packet_in : (number stamp : ℕ) → Datagram → Rtp → Packet
packet_in number stamp d rtp = record {
  rec = number;
  at = stamp;
  source = d.source;
  target = d.target;
  length = d.length;
  rtp = rtp;
  line = first_line d.stated d.payload;
}

-- a packet with a target is an RTP packet if its payload is read as RTP, else unread
abbrev pub read_in : Record → Datagram → Result Rtp PacketFault → Seen
read_in r d (Ok rtp) = Read (packet_in r.number r.stamp d rtp)
read_in r d (Err fault) = Unread d.target

-- a frame without a target is passed over
abbrev pub seen_in : Record → Result Datagram FrameClass → Seen
seen_in r (Err class) = PassedOver class
seen_in r (Ok d) = read_in r d (reading d.payload)

-- the result of reading a packet record
abbrev pub seen : Record → Seen
seen r = seen_in r (frame_reading r.bytes)
