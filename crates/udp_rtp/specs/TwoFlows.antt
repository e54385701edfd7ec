-- Two small captures of two flows, laid out by hand. Capture timestamps are nanoseconds since 1970-01-01 00:00:00.
use Rattle.std.specs.Prelude.{ℕ, List, [], ◌∷◌, ◌++◌, take}
use Rattle.timing_base.specs.Addresses.{ipv4}
use Rattle.timing_base.specs.Captures.{Record, joined}
use Rattle.timing_base.specs.declared.packet.FlowPacket.{FlowPacket}
use Rattle.timing_base.specs.declared.target.Target.{Target}
use Rattle.udp_rtp.specs.Examples.{frame_of, ip_type, macs, packet, plain_ip}
use Rattle.udp_rtp.specs.Reading.{reading}

-- 239.0.0.1, port 50001
abbrev pub next_port : Target
next_port = record { address = ipv4 239 0 0 1; port = 50001 }

-- an untagged frame with a whole packet to the port of these two bytes
abbrev pub frame_to : ℕ → ℕ → List ℕ
frame_to high low = macs ++ (ip_type ++ (plain_ip ++ (0xc3 ∷ 0x50 ∷ high ∷ low ∷ 0x00 ∷ 22 ∷ 0x00 ∷ 0x00 ∷ packet)))

-- a packet to port 50001, a frame without a datagram, a packet to port 257, and two packets to port 50000
abbrev pub first_capture : List Record
first_capture =
    record { number = 1; stamp = 100; bytes = frame_to 0xc3 0x51 }
    ∷ record { number = 2; stamp = 110; bytes = take 37 (frame_of plain_ip) }
    ∷ record { number = 3; stamp = 120; bytes = frame_to 0x01 0x01 }
    ∷ record { number = 4; stamp = 130; bytes = frame_of plain_ip }
    ∷ record { number = 5; stamp = 140; bytes = frame_of plain_ip } ∷ []

-- one packet to port 50001
abbrev pub second_capture : List Record
second_capture = record { number = 1; stamp = 200; bytes = frame_to 0xc3 0x51 } ∷ []

-- the two captures as one
abbrev pub joined_captures : List Record
joined_captures = joined (first_capture ∷ second_capture ∷ [])

-- the packet of a packet record with this number and capture timestamp
abbrev pub packet_at : ℕ → ℕ → FlowPacket
packet_at rec at = record { rec = rec; at = at; rtp = reading packet }
