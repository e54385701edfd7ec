-- The result of a scan, as a function of the packet records of a capture. Packet records count from 1; capture
-- timestamps are nanoseconds. A stream is the packets with one target and one SSRC (RFC 3550, section 3).
-- This project's profile: at most 1,024 streams are listed, and at most 1,024 targets with unread packets.
use Rattle.std.specs.Prelude.{◌≡◌, ℕ, ◌+◌, ◌==◌, ◌&&◌, Bool, true, false, List, [], ◌∷◌, length, map, filter_map}
use Rattle.std.specs.Prelude.{Option, Some, None, Result, Ok, Err}
use Rattle.std.specs.List.{count_by}
use Rattle.timing_base.specs.Captures.{Record}
use Rattle.timing_base.specs.Targets.{is_same_target}
use Rattle.timing_base.specs.declared.packet.FlowPacket.{FlowPacket}
use Rattle.timing_base.specs.declared.packet.PacketFault.{PacketFault}
use Rattle.timing_base.specs.declared.packet.Rtp.{Rtp}
use Rattle.timing_base.specs.declared.target.Target.{Target}
use Rattle.capture_scan.specs.Frames.{seen}
use Rattle.capture_scan.specs.Groups.{count_more, items_of, told}
use Rattle.capture_scan.specs.Streams.{last_from, stream_of}
use Rattle.udp_rtp.specs.declared.class.FrameClass.{FrameClass}
use Rattle.udp_rtp.specs.declared.class.FrameClass.TheVariants.{Empty, Tags, Ipv6, Other, NotUdp, Fragment, Broken}
use Rattle.capture_scan.specs.declared.found.Found.{Found}
use Rattle.capture_scan.specs.declared.found.PassedOver.{PassedOver as ClassCounts}
use Rattle.capture_scan.specs.declared.found.Span.{Span}
use Rattle.capture_scan.specs.declared.found.UnreadTarget.{UnreadTarget}
use Rattle.capture_scan.specs.declared.key.StreamKey.{StreamKey}
use Rattle.capture_scan.specs.declared.packet.Packet.{Packet}
use Rattle.capture_scan.specs.declared.packet.Seen.{Seen}
use Rattle.capture_scan.specs.declared.packet.Seen.TheVariants.{PassedOver, Unread, Read}
use Rattle.capture_scan.specs.declared.stream.Stream.{Stream}

-- the RTP packet in the result of reading a record
abbrev pub packet_seen : Seen → Option Packet
packet_seen (Read packet) = Some packet
packet_seen (Unread target) = None
packet_seen (PassedOver class) = None

-- the target of a packet that isn't read as RTP
abbrev pub unread_seen : Seen → Option Target
unread_seen (Read packet) = None
unread_seen (Unread target) = Some target
unread_seen (PassedOver class) = None

-- the RTP packets in some records
abbrev pub packets : List Record → List Packet
packets records = filter_map (λ r. packet_seen (seen r)) records

-- the targets of the packets that aren't read as RTP, one entry for each packet
abbrev pub unread : List Record → List Target
unread records = filter_map (λ r. unread_seen (seen r)) records

-- the stream of a packet
abbrev pub stream_key : Packet → StreamKey
stream_key p = record { target = p.target; ssrc = p.rtp.ssrc }

-- whether two stream keys are equal
abbrev pub is_same_stream : StreamKey → StreamKey → Bool
is_same_stream a b = is_same_target a.target b.target && (a.ssrc == b.ssrc)

-- the greatest number of streams that are listed, and of targets with unread packets
abbrev pub most_told : ℕ
most_told = 1024

-- the packets of a stream
abbrev pub packets_of : List Packet → StreamKey → List Packet
packets_of ps k = items_of is_same_stream stream_key most_told ps k

-- the streams that are listed, in the order of their first packets
abbrev pub streams : List Packet → List Stream
streams ps = filter_map (λ k. stream_of (packets_of ps k)) (told is_same_stream stream_key most_told ps)

-- the number of packets of the streams that aren't listed
abbrev pub more_packets : List Packet → ℕ
more_packets ps = count_more is_same_stream stream_key most_told ps

-- a target with the number of its unread packets
abbrev pub unread_of : List Target → Target → UnreadTarget
unread_of ts target = record {
  target = target;
  packets = length (items_of is_same_target (λ t. t) most_told ts target);
}

-- the targets with unread packets that are listed, in the order of their first unread packets
abbrev pub unread_targets : List Target → List UnreadTarget
unread_targets ts = map (unread_of ts) (told is_same_target (λ t. t) most_told ts)

-- the number of unread packets to the targets that aren't listed
abbrev pub more_unread : List Target → ℕ
more_unread ts = count_more is_same_target (λ t. t) most_told ts

-- whether two classes are equal
abbrev pub is_same_class : FrameClass → FrameClass → Bool
is_same_class Empty Empty = true
is_same_class Tags Tags = true
is_same_class Ipv6 Ipv6 = true
is_same_class Other Other = true
is_same_class NotUdp NotUdp = true
is_same_class Fragment Fragment = true
is_same_class Broken Broken = true
is_same_class a b = false

-- whether a record has a frame of this class
abbrev pub is_of_class : FrameClass → Seen → Bool
is_of_class c (PassedOver class) = is_same_class c class
is_of_class c (Unread target) = false
is_of_class c (Read packet) = false

-- the number of records with a frame of this class
abbrev pub count_of : FrameClass → List Record → ℕ
count_of c records = count_by (λ r. is_of_class c (seen r)) records

-- the number of records with a frame of each class
abbrev pub passed_over : List Record → ClassCounts
passed_over records = record {
  empty = count_of Empty records;
  tags = count_of Tags records;
  ipv6 = count_of Ipv6 records;
  other = count_of Other records;
  not_udp = count_of NotUdp records;
  fragment = count_of Fragment records;
  broken = count_of Broken records;
}

-- the number of records with a frame without a target
abbrev pub count_passed : ClassCounts → ℕ
count_passed n = n.empty + n.tags + n.ipv6 + n.other + n.not_udp + n.fragment + n.broken

-- the capture timestamps of the first and of the last record
abbrev pub span_of : List Record → Option Span
span_of [] = None
span_of (r ∷ rs) = Some (record { first = r.stamp; last = (last_from r rs).stamp })

-- `found` is the result of a scan of these records
pub record IsFound (records : List Record) (found : Found) : Type 0 where
  pub records_are : found.records ≡ length records
  pub span_is : found.span ≡ span_of records
  pub passed_over_are : found.passed_over ≡ passed_over records
  pub streams_are : found.streams.items ≡ streams (packets records)
  pub unread_are : found.unread.items ≡ unread_targets (unread records)
  pub more_is : found.more ≡ more_packets (packets records) + more_unread (unread records)

-- the stream to this target with this SSRC
abbrev pub stream_to : Target → ℕ → StreamKey
stream_to target ssrc = record { target = target; ssrc = ssrc }

-- a packet as a packet of its flow
abbrev pub as_flow_packet : Packet → FlowPacket
as_flow_packet p = record { rec = p.rec; at = p.at; rtp = Ok p.rtp }

-- whether the payload of a packet was read as RTP, with this SSRC
abbrev pub is_read_from : ℕ → Result Rtp PacketFault → Bool
is_read_from ssrc (Ok rtp) = rtp.ssrc == ssrc
is_read_from ssrc (Err fault) = false

-- whether a packet of a flow was read as RTP, with this SSRC
abbrev pub is_from : ℕ → FlowPacket → Bool
is_from ssrc p = is_read_from ssrc p.rtp
