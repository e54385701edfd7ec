-- The packets of a flow with counted numbers: as many, at the same instants, and one packet on.
use Rattle.std.proofs.Common.{◌≡◌, ℕ, Bool, true, false, List, [], ◌∷◌, ◌++◌, length, Option, None, refl, arith, ap}
use Rattle.std.proofs.lemmas.List.Elements.{All-nil, All-cons, All-head, All-tail}
use Rattle.timing_base.specs.declared.packet.FlowPacket.{FlowPacket}
use Rattle.timing_base.specs.Captures.{IsStamp}
use Rattle.timing_base.specs.Flows.{AreStamped}
use Rattle.timing_base.specs.Numbered.{counted_from, counted_packet, counted_rtp, last_counted, number_after, numbered}

length-counted_from : (before : Option ℕ) (packets : List FlowPacket) → length (counted_from before packets) ≡ length packets
length-counted_from before [] = refl
length-counted_from before (p ∷ ps) = omega (arith, length-counted_from (number_after before (counted_rtp before p.rtp)) ps)

-- a flow has as many packets, whatever their numbers
pub length-numbered : (seq16 : Bool) (packets : List FlowPacket) → length (numbered seq16 packets) ≡ length packets
length-numbered false packets = refl
length-numbered true packets = length-counted_from None packets

stamped-counted_from : (before : Option ℕ) (packets : List FlowPacket) → AreStamped packets → AreStamped (counted_from before packets)
stamped-counted_from before [] all = All-nil (λ (p : FlowPacket). IsStamp p.at)
stamped-counted_from before (p ∷ ps) all =
    All-cons (λ (q : FlowPacket). IsStamp q.at) (counted_packet before p) (counted_from (number_after before (counted_rtp before p.rtp)) ps)
    (All-head (λ (q : FlowPacket). IsStamp q.at) p ps all)
    (stamped-counted_from (number_after before (counted_rtp before p.rtp)) ps (All-tail (λ (q : FlowPacket). IsStamp q.at) p ps all))

-- its packets have the same capture timestamps
pub stamped-numbered : (seq16 : Bool) (packets : List FlowPacket) → AreStamped packets → AreStamped (numbered seq16 packets)
stamped-numbered false packets all = all
stamped-numbered true packets all = stamped-counted_from None packets all

-- later packets count on from the last of those before
pub counted_from-append : (before : Option ℕ) (packets later : List FlowPacket)
    → counted_from before (packets ++ later) ≡ counted_from before packets ++ counted_from (last_counted before packets) later
counted_from-append before [] later = refl
counted_from-append before (p ∷ ps) later =
    ap (λ rest. counted_packet before p ∷ rest) (counted_from-append (number_after before (counted_rtp before p.rtp)) ps later)

pub last_counted-append : (before : Option ℕ) (packets later : List FlowPacket)
    → last_counted before (packets ++ later) ≡ last_counted (last_counted before packets) later
last_counted-append before [] later = refl
last_counted-append before (p ∷ ps) later = last_counted-append (number_after before (counted_rtp before p.rtp)) ps later

-- the number of one packet more is counted on from those before
pub numbered-push : (packets : List FlowPacket) (p : FlowPacket)
    → numbered true (packets ++ p ∷ []) ≡ numbered true packets ++ counted_packet (last_counted None packets) p ∷ []
numbered-push packets p = counted_from-append None packets (p ∷ [])
