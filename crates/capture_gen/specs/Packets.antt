-- The Ethernet frame of one RTP packet: Ethernet, IPv4, UDP, RTP and the extended sequence number of ST 2110-20.
use Rattle.std.specs.Prelude.{ℕ, ◌+◌, ◌/◌, ◌%◌, Bool, true, false, List, [], ◌∷◌, ◌++◌}
use Rattle.byteorder.specs.Endian.{big_bytes}
use Rattle.capture_gen.specs.declared.packet.Packet.{Packet}
use Rattle.pcap_reader.specs.WrittenHeads.{record_head}

-- Ethernet II: the group address (RFC 1112, section 6.4), the source, the type IPv4
abbrev pub ethernet_header : List ℕ
ethernet_header =
    0x01 ∷ 0x00 ∷ 0x5e ∷ 0x00 ∷ 0x00 ∷ 0x01 ∷ []
    ++ 0x02 ∷ 0x00 ∷ 0x00 ∷ 0x00 ∷ 0x00 ∷ 0x01 ∷ []
    ++ big_bytes 2 0x0800

-- the IPv4 header (RFC 791, section 3.1)
abbrev pub ipv4_header : List ℕ
ipv4_header =
    -- version 4, an IHL of 5; type of service
    0x45 ∷ 0x00 ∷ []
    -- total length; identification; the flag DF
    ++ big_bytes 2 42
    ++ big_bytes 2 0
    ++ big_bytes 2 0x4000
    -- time to live; protocol UDP; checksum, left 0
    ++ 64 ∷ 17 ∷ []
    ++ big_bytes 2 0
    -- source 192.0.2.1, destination 239.0.0.1
    ++ 192 ∷ 0 ∷ 2 ∷ 1 ∷ []
    ++ 239 ∷ 0 ∷ 0 ∷ 1 ∷ []

-- the UDP header (RFC 768): source and destination port, length, checksum, which is left 0
abbrev pub udp_header : List ℕ
udp_header = big_bytes 2 50000 ++ big_bytes 2 50000 ++ big_bytes 2 22 ++ big_bytes 2 0

-- the marker and the payload type 96, in one byte
abbrev pub marker_and_type : Bool → ℕ
marker_and_type true = 128 + 96
marker_and_type false = 96

-- the RTP header (RFC 3550, section 5.1): version 2, no other flags; marker and payload type; sequence number; RTP
-- timestamp; SSRC 1
abbrev pub rtp_header : Packet → List ℕ
rtp_header p =
    0x80 ∷ marker_and_type p.marker ∷ []
    ++ big_bytes 2 (p.number % 65536)
    ++ big_bytes 4 p.timestamp
    ++ big_bytes 4 1

-- the high half of the packet number (RFC 4175, section 4.2)
abbrev pub extended_number : Packet → List ℕ
extended_number p = big_bytes 2 (p.number / 65536)

-- the packet record: a header of 16 bytes, and the 56 bytes of the Ethernet frame
unfoldable pub record_of : Packet → List ℕ
record_of p =
    record_head p.at 56
    ++ ethernet_header ++ ipv4_header ++ udp_header
    ++ rtp_header p
    ++ extended_number p
