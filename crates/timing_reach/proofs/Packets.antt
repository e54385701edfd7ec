-- What holds of each packet of a flow.
use Rattle.std.proofs.Common.{◌≡◌, ◌≤◌, ℕ, Bool, true, false, if◌then◌else◌, nat_lt, List, [], ◌∷◌, length, Option, Some, None, refl, arith, subst, inl, inr}
use Rattle.std.specs.Prelude.{◌==◌, ◌/◌, ◌+◌, slice_index, Result}
use Rattle.std.specs.List.{cons_option}
use Rattle.timing_base.specs.Captures.{Record}
use Rattle.timing_base.specs.Media.{Media}
use Rattle.timing_base.specs.Targets.{target_of}
use Rattle.timing_base.specs.declared.packet.FlowPacket.{FlowPacket}
use Rattle.timing_base.specs.declared.packet.PacketFault.{PacketFault}
use Rattle.timing_base.specs.declared.packet.Rtp.{Rtp}
use Rattle.fail_interval.specs.States.{IsReading}
use Rattle.udp_rtp.specs.Flow.{datagram_packet, flow, flow_packet, is_same_target}
use Rattle.udp_rtp.specs.Frames.{Datagram, datagram_of}
use Rattle.udp_rtp.specs.Reading.{payload_place, reading}

-- of two readings each is so
either : (P : Result Rtp PacketFault → Type 0) (b : Bool) (x y : Result Rtp PacketFault) → P x → P y → P (if b then x else y)
either P true x y p q = p
either P false x y p q = q

-- a packet is read, or is too short, or of another version
pub is-reading : (bytes : List ℕ) → IsReading (reading bytes)
is-reading bytes =
    either IsReading (nat_lt (length bytes) 12) _ _ (inl refl)
    (either IsReading (slice_index bytes 0 / 64 == 2) _ _
    (either IsReading (nat_lt (length bytes) (payload_place bytes + 2)) _ _ (inl refl) tt) (inr refl))

-- a packet of a flow has the stamp of its record, and a reading
pub record IsOf (r : Record) (p : FlowPacket) : Type 0 where
  pub at : p.at ≡ r.stamp
  pub read : IsReading p.rtp

abbrev OfSome : Record → Option FlowPacket → Type 0
OfSome r None = Unit {0}
OfSome r (Some p) = IsOf r p

of-if : (r : Record) (d : Datagram) (b : Bool) → OfSome r (if b then Some (record { rec = r.number; at = r.stamp; rtp = reading d.payload }) else None)
of-if r d true = record { at = refl; read = is-reading d.payload }
of-if r d false = tt

of-datagram : (m : Media) (r : Record) (o : Option Datagram) → OfSome r (datagram_packet m r.number r.stamp o)
of-datagram m r None = tt
of-datagram m r (Some d) = of-if r d (is_same_target d.target (target_of m))

pub packet-of : (m : Media) (r : Record) (p : FlowPacket) → flow_packet m r ≡ Some p → IsOf r p
packet-of m r p e = subst (OfSome r) e (of-datagram m r (datagram_of r.bytes))

-- a flow has no more packets than there are records
few-option : {X : Type 0} (o : Option X) (xs : List X) (n : ℕ) → length xs ≤ n → length (cons_option o xs) ≤ n + 1
few-option None xs n h = omega (arith, h)
few-option (Some x) xs n h = omega (arith, h)

pub flow-few : (m : Media) (items : List Record) → length (flow items m) ≤ length items
flow-few m [] = omega arith
flow-few m (r ∷ items) =
    let few = few-option (flow_packet m r) (flow items m) (length items) (flow-few m items) in omega (arith, few)
