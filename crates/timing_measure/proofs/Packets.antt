-- The packets of a flow, by the packet records.
use Rattle.std.proofs.Common.{◌≡◌, ◌≤◌, ◌+◌, ℕ, Bool, true, false, if◌then◌else◌, List, [], ◌∷◌, ◌++◌, length, Option, Some, None, refl, arith, subst, sym}
use Rattle.std.specs.List.{cons_option}
use Rattle.timing_base.specs.Captures.{Record}
use Rattle.timing_base.specs.Media.{Media}
use Rattle.timing_base.specs.Targets.{target_of}
use Rattle.timing_base.specs.declared.packet.FlowPacket.{FlowPacket}
use Rattle.udp_rtp.specs.Flow.{datagram_packet, flow, flow_packet, is_same_target}
use Rattle.udp_rtp.specs.Frames.{Datagram, datagram_of}
use Rattle.udp_rtp.specs.Reading.{reading}

-- a record that is a packet of the flow, or isn't
pub one-packet : (P : List FlowPacket → Type 0) (packets : List FlowPacket) (o also : Option FlowPacket) → also ≡ o → P (packets ++ cons_option o [])
    → P (packets ++ cons_option also [])
one-packet P packets o also e h = subst (λ x. P (packets ++ cons_option x [])) (sym e) h

-- a packet of a flow has the stamp of its record
abbrev HasStamp : Record → Option FlowPacket → Type 0
HasStamp r None = Unit {0}
HasStamp r (Some p) = p.at ≡ r.stamp

stamp-if : (r : Record) (d : Datagram) (b : Bool) → HasStamp r (if b then Some (record { rec = r.number; at = r.stamp; rtp = reading d.payload }) else None)
stamp-if r d true = refl
stamp-if r d false = tt

stamp-datagram : (m : Media) (r : Record) (o : Option Datagram) → HasStamp r (datagram_packet m r.number r.stamp o)
stamp-datagram m r None = tt
stamp-datagram m r (Some d) = stamp-if r d (is_same_target d.target (target_of m))

pub packet-at : (m : Media) (r : Record) (p : FlowPacket) → flow_packet m r ≡ Some p → p.at ≡ r.stamp
packet-at m r p e = subst (HasStamp r) e (stamp-datagram m r (datagram_of r.bytes))

-- a flow has no more packets than there are records
few-option : {X : Type 0} (o : Option X) (xs : List X) (n : ℕ) → length xs ≤ n → length (cons_option o xs) ≤ n + 1
few-option None xs n h = omega (arith, h)
few-option (Some x) xs n h = omega (arith, h)

pub flow-few : (m : Media) (items : List Record) → length (flow items m) ≤ length items
flow-few m [] = omega arith
flow-few m (r ∷ items) =
    let few = few-option (flow_packet m r) (flow items m) (length items) (flow-few m items) in omega (arith, few)
