-- The flow of a media: those packet records of a capture that go to its target, an address and a port.
use Rattle.std.specs.Prelude.{ℕ, if◌then◌else◌, List, filter_map, Option, Some, None}
use Rattle.timing_base.specs.Captures.{Record}
use Rattle.timing_base.specs.Media.{Media}
pub use Rattle.timing_base.specs.Targets.{is_same_target}
use Rattle.timing_base.specs.Targets.{target_of}
use Rattle.timing_base.specs.declared.packet.FlowPacket.{FlowPacket}
use Rattle.udp_rtp.specs.Frames.{Datagram, datagram_of}
use Rattle.udp_rtp.specs.Reading.{reading}

-- the packet of a media's flow in the packet record of a datagram, if the datagram goes to the media's target
abbrev pub datagram_packet : Media → ℕ → ℕ → Option Datagram → Option FlowPacket
datagram_packet media number stamp None = None
datagram_packet media number stamp (Some d) =
    if is_same_target d.target (target_of media) then
    Some (record { rec = number; at = stamp; rtp = reading d.payload })
    else None

-- the packet of a media's flow in a packet record, if the record's target is that of the media
abbrev pub flow_packet : Media → Record → Option FlowPacket
flow_packet media r = datagram_packet media r.number r.stamp (datagram_of r.bytes)

-- the flow of a media: a packet for each packet record that goes to the media's target, in order
abbrev pub flow : List Record → Media → List FlowPacket
flow records media = filter_map (flow_packet media) records
