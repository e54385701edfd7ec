-- An Ethernet frame laid out by hand, byte by byte, with the fields that vary as arguments.
use Rattle.std.specs.Prelude.{ℕ, false, List, [], ◌∷◌, ◌++◌}
use Rattle.timing_base.specs.Addresses.{ipv4}
use Rattle.timing_base.specs.declared.packet.Rtp.{Rtp}
use Rattle.timing_base.specs.declared.target.Target.{Target}
use Rattle.udp_rtp.specs.Frames.{Datagram}

-- the destination and source addresses of Ethernet
abbrev pub macs : List ℕ
macs = 0x01 ∷ 0x00 ∷ 0x5e ∷ 0x00 ∷ 0x00 ∷ 0x01 ∷ 0x02 ∷ 0x00 ∷ 0x00 ∷ 0x00 ∷ 0x00 ∷ 0x01 ∷ []

-- the type field of IPv4
abbrev pub ip_type : List ℕ
ip_type = 0x08 ∷ 0x00 ∷ []

-- a tag of VLAN 5 with priority 3
abbrev pub tag : List ℕ
tag = 0x81 ∷ 0x00 ∷ 0x60 ∷ 0x05 ∷ []

-- an IPv4 header from 192.0.2.1 to 239.0.0.1 with these version and IHL, flags, offset and protocol
abbrev pub ip : ℕ → ℕ → ℕ → ℕ → List ℕ
ip first flags offset protocol =
    first ∷ 0x00 ∷ 0x00 ∷ 0x2a
    ∷ 0x00 ∷ 0x00 ∷ flags ∷ offset
    ∷ 0x40 ∷ protocol ∷ 0x00 ∷ 0x00
    ∷ 0xc0 ∷ 0x00 ∷ 0x02 ∷ 0x01
    ∷ 0xef ∷ 0x00 ∷ 0x00 ∷ 0x01 ∷ []

-- an IPv4 header with the flag DF, for UDP
abbrev pub plain_ip : List ℕ
plain_ip = ip 0x45 0x40 0x00 0x11

-- a UDP header from port 50000 to port 50000, with this length, which is below 256
abbrev pub udp : ℕ → List ℕ
udp stated = 0xc3 ∷ 0x50 ∷ 0xc3 ∷ 0x50 ∷ 0x00 ∷ stated ∷ 0x00 ∷ 0x00 ∷ []

-- the fixed header of RTP with these first two bytes: sequence number 8, RTP timestamp 1800, SSRC 1
abbrev pub rtp : ℕ → ℕ → List ℕ
rtp first second =
    first ∷ second ∷ 0x00 ∷ 0x08
    ∷ 0x00 ∷ 0x00 ∷ 0x07 ∷ 0x08
    ∷ 0x00 ∷ 0x00 ∷ 0x00 ∷ 0x01 ∷ []

-- the extended sequence number 1, with which the packet number is 65,544
abbrev pub extended : List ℕ
extended = 0x00 ∷ 0x01 ∷ []

-- a contributing source
abbrev pub source : List ℕ
source = 0x11 ∷ 0x22 ∷ 0x33 ∷ 0x44 ∷ []

-- a header extension of one word
abbrev pub extension : List ℕ
extension = 0xbe ∷ 0xde ∷ 0x00 ∷ 0x01 ∷ 0x51 ∷ 0x52 ∷ 0x53 ∷ 0x54 ∷ []

-- a payload with nothing between the fixed header and the extended sequence number
abbrev pub packet : List ℕ
packet = rtp 0x80 0x60 ++ extended

-- the fields of that payload
abbrev pub plain_packet : Rtp
plain_packet = record { number = 65544; timestamp = 1800; marker = false; pt = 96; ssrc = 1 }

-- an untagged frame with this IPv4 header and its options, this UDP header and this payload
abbrev pub frame_with : List ℕ → List ℕ → List ℕ → List ℕ
frame_with header datagram payload = macs ++ (ip_type ++ (header ++ (datagram ++ payload)))

-- an untagged frame with this IPv4 header and its options, and a whole packet
abbrev pub frame_of : List ℕ → List ℕ
frame_of header = frame_with header (udp 22) packet

-- 239.0.0.1, port 50000
abbrev pub group : Target
group = record { address = ipv4 239 0 0 1; port = 50000 }

-- 192.0.2.1, port 50000
abbrev pub sender : Target
sender = record { address = ipv4 192 0 2 1; port = 50000 }

-- a datagram from the sender to the group, of 42 bytes with its IPv4 header, with this much payload by its UDP length
-- and this one captured
abbrev pub stating : ℕ → List ℕ → Datagram
stating stated bytes = record { target = group; source = sender; length = 42; stated = stated; payload = bytes }

-- such a datagram with a UDP length of 22 bytes
abbrev pub to_group : List ℕ → Datagram
to_group bytes = stating 14 bytes

-- the type field of IPv6
abbrev pub ipv6_type : List ℕ
ipv6_type = 0x86 ∷ 0xdd ∷ []

-- the type field of ARP
abbrev pub arp_type : List ℕ
arp_type = 0x08 ∷ 0x06 ∷ []

-- a tag of a provider's bridge, with VLAN 5
abbrev pub provider_tag : List ℕ
provider_tag = 0x88 ∷ 0xa8 ∷ 0x00 ∷ 0x05 ∷ []

-- ten bytes that may follow a type field
abbrev pub ten : List ℕ
ten = 0 ∷ 0 ∷ 0 ∷ 0 ∷ 0 ∷ 0 ∷ 0 ∷ 0 ∷ 0 ∷ 0 ∷ []

-- an Ethernet frame with TCP
abbrev pub tcp_frame : List ℕ
tcp_frame = frame_of (ip 0x45 0x40 0 6)

-- the first fragment of a datagram
abbrev pub fragment_frame : List ℕ
fragment_frame = frame_of (ip 0x45 0x20 0 17)

-- an IPv4 header with version 6
abbrev pub broken_frame : List ℕ
broken_frame = frame_of (ip 0x65 0x40 0 17)
