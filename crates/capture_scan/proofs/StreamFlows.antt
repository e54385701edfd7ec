-- The packets of a stream are those of the flow of a media with its target that have its SSRC.
use Rattle.std.proofs.Common.{◌≡◌, ℕ, ◌==◌, ◌&&◌, Bool, true, false, cond, if◌then◌else◌, List, [], ◌∷◌, map, filter, Option, Some, None, Result, Ok, Err}
use Rattle.std.proofs.Common.{refl, sym, ap, ◌∙◌}
use Rattle.std.specs.Cmp.{nat_eq_equiv}
use Rattle.std.specs.List.{cons_option}
use Rattle.timing_base.specs.Captures.{Record}
use Rattle.timing_base.specs.Media.{Media}
use Rattle.timing_base.specs.Targets.{target_of}
use Rattle.timing_base.specs.declared.packet.FlowPacket.{FlowPacket}
use Rattle.timing_base.specs.declared.packet.PacketFault.{PacketFault}
use Rattle.timing_base.specs.declared.packet.Rtp.{Rtp}
use Rattle.udp_rtp.specs.Flow.{datagram_packet, flow, is_same_target}
use Rattle.udp_rtp.specs.Frames.{Datagram, datagram_of, datagram_or_class}
use Rattle.udp_rtp.specs.Reading.{reading}
use Rattle.capture_scan.specs.Frames.{packet_in, read_in, seen_in}
use Rattle.capture_scan.specs.Scans.{as_flow_packet, is_from, is_read_from, packet_seen, packets, packets_of, stream_to}
use Rattle.capture_scan.specs.declared.packet.Packet.{Packet}

-- the packets of the stream of this SSRC to the media's target, as packets of a flow
abbrev own_of : Media → ℕ → List Packet → List FlowPacket
own_of media ssrc ps = map as_flow_packet (packets_of ps (stream_to (target_of media) ssrc))

-- the packet of a record with a target, as one of its flow
abbrev flow_of : Record → Datagram → FlowPacket
flow_of r d = record { rec = r.number; at = r.stamp; rtp = reading d.payload }

module _ (media : Media) (ssrc : ℕ) where
  -- one packet more, by whether its target and its SSRC are those
  step : (x y : Bool) (p : Packet) (f : FlowPacket) (ps : List Packet) (fs : List FlowPacket) → as_flow_packet p ≡ f → is_from ssrc f ≡ y
      → map as_flow_packet ps ≡ filter (is_from ssrc) fs
      → map as_flow_packet (cond (x && y) (p ∷ ps) ps) ≡ filter (is_from ssrc) (cons_option (if x then Some f else None) fs)
  step true true p f ps fs same from rest =
      (λ i. same i ∷ rest i) ∙ sym (ap (λ (t : Bool). cond t (f ∷ filter (is_from ssrc) fs) (filter (is_from ssrc) fs)) from)
  step true false p f ps fs same from rest =
      rest ∙ sym (ap (λ (t : Bool). cond t (f ∷ filter (is_from ssrc) fs) (filter (is_from ssrc) fs)) from)
  step false y p f ps fs same from rest = rest

  -- a packet that isn't read is of no stream
  skip : (b : Bool) (f : FlowPacket) (fs : List FlowPacket) → is_from ssrc f ≡ false
      → filter (is_from ssrc) fs ≡ filter (is_from ssrc) (cons_option (if b then Some f else None) fs)
  skip true f fs from = sym (ap (λ (t : Bool). cond t (f ∷ filter (is_from ssrc) fs) (filter (is_from ssrc) fs)) from)
  skip false f fs from = refl

  -- one record more
  record_more : (r : Record) (o : Option Datagram) (ps : List Packet) (fs : List FlowPacket)
      → own_of media ssrc ps ≡ filter (is_from ssrc) fs
      → own_of media ssrc (cons_option (packet_seen (seen_in r (datagram_or_class r.bytes o))) ps)
      ≡ filter (is_from ssrc) (cons_option (datagram_packet media r.number r.stamp o) fs)
  record_more r None ps fs rest = rest
  record_more r (Some d) ps fs rest = by (reading d.payload) refl
    where
      by : (res : Result Rtp PacketFault) → reading d.payload ≡ res
          → own_of media ssrc (cons_option (packet_seen (read_in r d (reading d.payload))) ps)
          ≡ filter (is_from ssrc) (cons_option (datagram_packet media r.number r.stamp (Some d)) fs)
      by (Err fault) e =
          ap (λ (res : Result Rtp PacketFault). own_of media ssrc (cons_option (packet_seen (read_in r d res)) ps)) e
          ∙ (rest ∙ skip (is_same_target d.target (target_of media)) (flow_of r d) fs (ap (is_read_from ssrc) e))
      by (Ok rtp) e =
          ap (λ (res : Result Rtp PacketFault). own_of media ssrc (cons_option (packet_seen (read_in r d res)) ps)) e
          ∙ (step (is_same_target (target_of media) d.target) (ssrc == rtp.ssrc) (packet_in r.number r.stamp d rtp) (flow_of r d)
          (packets_of ps (stream_to (target_of media) ssrc)) fs
          (λ i. record { rec = r.number; at = r.stamp; rtp = sym e i })
          (ap (is_read_from ssrc) e ∙ nat_eq_equiv.symm rtp.ssrc ssrc)
          rest
          ∙ ap (λ (t : Bool). filter (is_from ssrc) (cons_option (if t then Some (flow_of r d) else None) fs)) same_target)
        where
          same_target : is_same_target (target_of media) d.target ≡ is_same_target d.target (target_of media)
          same_target = λ i. nat_eq_equiv.symm media.address.bits d.target.address.bits i && nat_eq_equiv.symm media.port d.target.port i

  pub stream-flow : (records : List Record)
      → own_of media ssrc (packets records) ≡ filter (is_from ssrc) (flow records media)
  stream-flow [] = refl
  stream-flow (r ∷ rs) = record_more r (datagram_of r.bytes) (packets rs) (flow rs media) (stream-flow rs)
