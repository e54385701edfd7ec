-- A packet of one media of a capture. Packet records count from 1, media from 0. Capture timestamps are in nanoseconds
-- since 1970-01-01 00:00:00.
use Rattle.std.specs.Prelude.{◌≡◌, ◌<◌, ◌^◌, ℕ, Bool, true, false, Result, Ok, Err}
use Rattle.timing_base.specs.Captures.{IsStamp}
use Rattle.timing_base.specs.declared.packet.FlowPacket.{FlowPacket}
use Rattle.timing_base.specs.declared.packet.PacketFault.{PacketFault}
use Rattle.timing_base.specs.declared.packet.PacketFault.TheVariants.{Short, Version}
use Rattle.timing_base.specs.declared.packet.Rtp.{Rtp}

-- a packet: its media, packet record, capture timestamp, and RTP header or parse fault
pub record Packet : Type 0 where
  pub media : ℕ
  pub rec : ℕ
  pub at : ℕ
  pub rtp : Result Rtp PacketFault

-- whether the RTP header was parsed, or couldn't be for the reasons Short or Version
abbrev pub is_reading : Result Rtp PacketFault → Bool
is_reading (Ok rtp) = true
is_reading (Err Short) = true
is_reading (Err Version) = true
is_reading (Err _) = false

-- the RTP header was parsed, or couldn't be for the reasons Short or Version
abbrev pub IsReading : Result Rtp PacketFault → Type 0
IsReading rtp = is_reading rtp ≡ true

-- its quantities are within their limits
pub record IsPacket (p : Packet) : Type 0 where
  pub rec_few : p.rec < 2 ^ 37
  pub at_stamp : IsStamp p.at
  pub rtp_reading : IsReading p.rtp

-- the packet as its flow has it
abbrev pub flow_packet : Packet → FlowPacket
flow_packet p = record { rec = p.rec; at = p.at; rtp = p.rtp }

-- the packet of a flow, with the number of its media
abbrev pub packet_of : ℕ → FlowPacket → Packet
packet_of media p = record { media = media; rec = p.rec; at = p.at; rtp = p.rtp }
