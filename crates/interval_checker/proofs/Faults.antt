-- The fault of a packet that was read, part by part.
use Rattle.std.proofs.Common.{◌≡◌, ◌≢◌, ◌≤◌, ◌-◌, ℕ, Bool, true, false, List, Option, Some, None, Result, refl, ap, ◌∙◌, sym, subst, arith}
use Rattle.std.specs.Prelude.{◌==◌, nat_lt, ◌&&◌, not}
use Rattle.std.proofs.lemmas.Bool.Decides.{nat_tests}
use Rattle.timing_base.specs.Flows.{fault, fault_if, first_of, is_cut, is_second_source, is_stamp_back, lacks_marker, order_fault, packet, read_or_zeros}
use Rattle.timing_base.specs.Flows.{reading_fault, repeats_timestamp, rtp, size_fault}
use Rattle.timing_base.specs.declared.packet.FlowPacket.{FlowPacket}
use Rattle.timing_base.specs.declared.packet.PacketFault.{PacketFault}
use Rattle.timing_base.specs.declared.packet.PacketFault.TheVariants.{PayloadType, SecondSource, NoMarker, SameStamp}
use Rattle.timing_base.specs.declared.packet.Rtp.{Rtp}
use Rattle.interval_checker.specs.Faulty.{read_fault}
use Rattle.interval_checker.specs.Packets.{ComesAfter, IsAfter, IsRead}
use Rattle.interval_checker.specs.declared.before.Before.{Before}

-- what was read of the packet
pub rtp-is : (packets : List FlowPacket) (i at : ℕ) (r : Rtp) → IsRead packets i at r → rtp packets i ≡ r
rtp-is packets i at r is = ap read_or_zeros is.rtp

not_back : (i a b : ℕ) → b ≤ a → (nat_lt 0 i && nat_lt a b) ≡ false
not_back i a b h = grind (arith, nat_tests)

-- where no cut stands and the stamp doesn't go back, only the timestamp can be at fault
pub order-timestamp : (packets : List FlowPacket) (i : ℕ)
    → is_cut packets i ≡ false
    → (packet packets (i - 1)).at ≤ (packet packets i).at
    → order_fault 1024 packets i ≡ first_of (fault_if (lacks_marker packets i) NoMarker) (fault_if (repeats_timestamp packets i) SameStamp)
order-timestamp packets i e h =
    let back : is_stamp_back packets i ≡ false = not_back i _ _ h in
    rw (e, back) refl

-- a packet that was read has none of the faults of a reading
pub fault-is : (packets : List FlowPacket) (pt i at : ℕ) (r : Rtp)
    → IsRead packets i at r
    → fault packets pt i ≡ first_of (read_fault pt r (is_second_source packets i)) (first_of (order_fault 1024 packets i) (size_fault 262144 packets i))
fault-is packets pt i at r is =
    ap (λ (read : Result Rtp PacketFault). first_of (first_of (reading_fault read)
    (first_of (fault_if (not ((read_or_zeros read).pt == pt)) PayloadType) (fault_if (is_second_source packets i) SecondSource)))
    (first_of (order_fault 1024 packets i) (size_fault 262144 packets i))) is.rtp

regroup : (a b c : Option PacketFault) → first_of a (first_of b c) ≡ first_of (first_of a b) c
regroup None b c = refl
regroup (Some f) b c = refl

-- by itself and by the packet before, and then by its group
pub fault-split : (packets : List FlowPacket) (pt i at : ℕ) (r : Rtp) (here : Option PacketFault)
    → IsRead packets i at r
    → here ≡ first_of (read_fault pt r (is_second_source packets i)) (order_fault 1024 packets i)
    → fault packets pt i ≡ first_of here (size_fault 262144 packets i)
fault-split packets pt i at r here is e =
    fault-is packets pt i at r is
    ∙ (regroup (read_fault pt r (is_second_source packets i)) (order_fault 1024 packets i) (size_fault 262144 packets i)
    ∙ ap (λ first. first_of first (size_fault 262144 packets i)) (sym e))

-- another payload type
pub fault-payload : (pt : ℕ) (r : Rtp) (second : Bool) (order : Option PacketFault) → r.pt ≢ pt → Some PayloadType ≡ first_of (read_fault pt r second) order
fault-payload pt r second order ne = let e : (r.pt == pt) ≡ false = grind (arith, nat_tests) in rw e refl

-- another source
pub fault-source : (pt : ℕ) (r : Rtp) (second : Bool) (order : Option PacketFault) → r.pt ≡ pt → second ≡ true
    → Some SecondSource ≡ first_of (read_fault pt r second) order
fault-source pt r second order same s = let e : (r.pt == pt) ≡ true = grind (arith, nat_tests) in rw (e, s) refl

-- neither
pub fault-order : (pt : ℕ) (r : Rtp) (second : Bool) (order here : Option PacketFault) → r.pt ≡ pt → second ≡ false → here ≡ order
    → here ≡ first_of (read_fault pt r second) order
fault-order pt r second order here same s h = let e : (r.pt == pt) ≡ true = grind (arith, nat_tests) in rw (e, s) h

same_number : (a : ℕ) → not (a == a) ≡ false
same_number a = grind (arith, nat_tests)

-- the first packet has no packet before it
pub fault-first : (packets : List FlowPacket) (pt i : ℕ) (r : Rtp) → r.pt ≡ pt → i ≡ 0
    → None ≡ first_of (read_fault pt r (is_second_source packets i)) (order_fault 1024 packets i)
fault-first packets pt i r same e =
    let source : is_second_source packets i ≡ false = ap (is_second_source packets) e ∙ same_number (rtp packets 0).ssrc in
    let order : order_fault 1024 packets i ≡ None = ap (order_fault 1024 packets) e in
    fault-order pt r (is_second_source packets i) (order_fault 1024 packets i) None same source (sym order)

-- what is kept of the packet before, where there is one, and where there is none
pub comes-none : (packets : List FlowPacket) (i : ℕ) (before : Option Before) → before ≡ None → ComesAfter packets i before → i ≡ 0
comes-none packets i before e h = subst (ComesAfter packets i) e h

pub comes-some : (packets : List FlowPacket) (i : ℕ) (before : Option Before) (b : Before) → before ≡ Some b → ComesAfter packets i before → IsAfter packets i b
comes-some packets i before b e h = subst (ComesAfter packets i) e h
