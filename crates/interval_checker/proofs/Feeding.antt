-- What the next packet of a flow says, whatever packets follow.
use Rattle.std.proofs.Common.{◌≡◌, ◌<◌, ◌+◌, ℕ, false, List, [], ◌∷◌, ◌++◌, length, refl, ap, sym, ◌∙◌, subst, arith, length-append}
use Rattle.std.proofs.Common.{append_assoc}
use Rattle.std.specs.Prelude.{Some, Ok, Err, ◌==◌}
use Rattle.std.proofs.Math.Seq.{get_or-append_seam}
use Rattle.std.proofs.lemmas.Bool.Decides.{nat_tests}
use Rattle.timing_base.specs.Shifts.{Shift}
use Rattle.timing_base.specs.Flows.{FirstFault, cuts, fault, first_fault, no_packet, packet}
use Rattle.timing_base.specs.Judged.{judged_as_numbered, refusal}
use Rattle.timing_base.specs.declared.packet.FlowPacket.{FlowPacket}
use Rattle.timing_base.specs.declared.packet.PacketFault.{PacketFault}
use Rattle.timing_base.specs.declared.row.Unjudged.{Unjudged}
use Rattle.timing_base.proofs.Between.{judged-refused}
use Rattle.timing_base.proofs.FirstFaults.{fault-here, fault-kept}
use Rattle.interval_checker.specs.Checked.{IsRefused}
use Rattle.timing_base.specs.declared.packet.Rtp.{Rtp}
use Rattle.interval_checker.specs.Packets.{IsRead}
use Rattle.interval_checker.specs.Walks.{Keeps, StandsFor}
use Rattle.interval_checker.specs.declared.walk.Walk.{Walk}

-- the packet that is fed comes after those before it
pub seam : (packets rest : List FlowPacket) (p : FlowPacket) → packet (packets ++ p ∷ rest) (length packets) ≡ p
seam packets rest p = get_or-append_seam packets p rest no_packet

-- and is there
pub seam-within : (packets rest : List FlowPacket) (p : FlowPacket) → length packets < length (packets ++ p ∷ rest)
seam-within packets rest p = omega (arith, length-append packets (p ∷ rest))

-- a packet that was not read
pub unread-fault : (packets : List FlowPacket) (pt i : ℕ) (f : PacketFault) → (packet packets i).rtp ≡ Err f → fault packets pt i ≡ Some f
unread-fault packets pt i f e = rw e refl

-- a packet has a fault, and none before it: the flow is refused
pub fault-ends : (pt : ℕ) (shift : Shift) (all : List FlowPacket) (w : Walk) (p : FlowPacket) (i : ℕ) (f : PacketFault) (why : Unjudged)
    → Keeps pt shift all i (cuts all i) w → i < length all → packet all i ≡ p
    → fault all pt i ≡ Some f
    → IsRefused (refusal p.rec f) why
    → IsRefused (judged_as_numbered all pt shift) why
fault-ends pt shift all w p i f why k within is has says =
    let x : FirstFault = record { index = i; fault = f } in
    let first : first_fault all pt ≡ Some x = fault-kept all pt (i + 1) (length all) x (omega (arith, within)) (fault-here all pt i f k.sound has) in
    let test : (length all == 0) ≡ false = grind (arith, nat_tests) in
    let verdict : refusal p.rec f ≡ judged_as_numbered all pt shift =
    judged-refused all pt shift x no_packet (refusal p.rec f) test first (ap (λ (q : FlowPacket). refusal q.rec f) (sym is)) in
    subst (λ v. IsRefused v why) verdict says

-- one packet more, whatever comes after it
pub stands-next : (pt : ℕ) (shift : Shift) (old new : Walk) (packets : List FlowPacket) (p : FlowPacket) → StandsFor pt shift old packets
    → ((all : List FlowPacket) (i : ℕ) → Keeps pt shift all i (cuts all i) old → packet all i ≡ p → i < length all
    → Keeps pt shift all (i + 1) (cuts all (i + 1)) new)
    → StandsFor pt shift new (packets ++ p ∷ [])
stands-next pt shift old new packets p s next = record {
  ahead = λ rest.
      let long : length (packets ++ p ∷ []) ≡ length packets + 1 = length-append packets (p ∷ []) in
      let joined : (packets ++ p ∷ []) ++ rest ≡ packets ++ p ∷ rest = append_assoc packets (p ∷ []) rest in
      let there = next (packets ++ p ∷ rest) (length packets) (s.ahead (p ∷ rest)) (seam packets rest p) (seam-within packets rest p) in
      subst (λ all. Keeps pt shift all (length (packets ++ p ∷ [])) (cuts all (length (packets ++ p ∷ []))) new) (sym joined)
      (subst (λ n. Keeps pt shift (packets ++ p ∷ rest) n (cuts (packets ++ p ∷ rest) n) new) (sym long) there);
}

-- how a packet comes
pub read-of : (all : List FlowPacket) (i : ℕ) (p : FlowPacket) (r : Rtp) → packet all i ≡ p → p.rtp ≡ Ok r → IsRead all i p.at r
read-of all i p r is e = record { at = ap (λ (q : FlowPacket). q.at) is; rtp = ap (λ (q : FlowPacket). q.rtp) is ∙ e }
