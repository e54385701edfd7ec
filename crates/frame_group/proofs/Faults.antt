-- The fault of a packet that was read, test by test.
use Rattle.std.proofs.Common.{◌≡◌, ◌≤◌, ◌-◌, ℕ, Bool, true, false, List, Option, Some, None, Result, refl, ap, ◌∙◌, arith}
use Rattle.std.specs.Prelude.{◌==◌, nat_lt, ◌&&◌, not, if◌then◌else◌}
use Rattle.std.proofs.lemmas.Bool.Decides.{nat_tests}
use Rattle.timing_base.specs.Flows.{expected_number, fault, fault_if, first_of, is_cut, is_second_source, is_stamp_back, lacks_marker, order_fault, packet}
use Rattle.timing_base.specs.Flows.{read_or_zeros, reading_fault, repeats_timestamp, rtp, size_fault}
use Rattle.timing_base.specs.declared.packet.FlowPacket.{FlowPacket}
use Rattle.timing_base.specs.declared.packet.PacketFault.{PacketFault}
use Rattle.timing_base.specs.declared.packet.PacketFault.TheVariants.{PayloadType, SecondSource, NoMarker, SameStamp}
use Rattle.timing_base.specs.declared.packet.Rtp.{Rtp}
use Rattle.frame_group.specs.Cuts.{cut_at}
use Rattle.frame_group.specs.Reads.{IsRead}

-- what was read of the packet
pub rtp-is : (packets : List FlowPacket) (i at : ℕ) (r : Rtp) → IsRead packets i at r → rtp packets i ≡ r
rtp-is packets i at r is = ap read_or_zeros is.rtp

none-case : (b : Bool) (n : ℕ) → (if b then Some n else None) ≡ None → b ≡ false
none-case true n e = cc
none-case false n e = refl

some-case : (b : Bool) (n m : ℕ) → (if b then Some n else None) ≡ Some m → b ≡ true
some-case true n m e = refl
some-case false n m e = cc

-- no number that would have gone on: no cut
pub cut-none : (packets : List FlowPacket) (i : ℕ) → cut_at packets i ≡ None → is_cut packets i ≡ false
cut-none packets i e = none-case (is_cut packets i) (expected_number packets i) e

-- such a number: a cut
pub cut-some : (packets : List FlowPacket) (i n : ℕ) → cut_at packets i ≡ Some n → is_cut packets i ≡ true
cut-some packets i n e = some-case (is_cut packets i) (expected_number packets i) n e

not_back : (i a b : ℕ) → b ≤ a → (nat_lt 0 i && nat_lt a b) ≡ false
not_back i a b h = grind (arith, nat_tests)

-- where no cut stands and the stamp doesn't go back, only the timestamp can be at fault
pub order-timestamp : (packets : List FlowPacket) (i : ℕ)
    → is_cut packets i ≡ false
    → (packet packets (i - 1)).at ≤ (packet packets i).at
    → order_fault 1024 packets i ≡ first_of (fault_if (lacks_marker packets i) NoMarker) (fault_if (repeats_timestamp packets i) SameStamp)
order-timestamp packets i e h =
    let back : is_stamp_back packets i ≡ false = not_back i _ _ h in
    rw (e, back) refl

-- a packet that was read has none of the faults of a reading
fault-is : (packets : List FlowPacket) (pt i at : ℕ) (r : Rtp)
    → IsRead packets i at r
    → fault packets pt i ≡ first_of (first_of (fault_if (not (r.pt == pt)) PayloadType) (fault_if (is_second_source packets i) SecondSource))
    (first_of (order_fault 1024 packets i) (size_fault 262144 packets i))
fault-is packets pt i at r is =
    ap (λ (read : Result Rtp PacketFault). first_of (first_of (reading_fault read)
    (first_of (fault_if (not ((read_or_zeros read).pt == pt)) PayloadType) (fault_if (is_second_source packets i) SecondSource)))
    (first_of (order_fault 1024 packets i) (size_fault 262144 packets i))) is.rtp

regroup : (a b c : Option PacketFault) → first_of a (first_of b c) ≡ first_of (first_of a b) c
regroup None b c = refl
regroup (Some f) b c = refl

-- the payload type is the media's
fault-same : (packets : List FlowPacket) (pt i at : ℕ) (r : Rtp)
    → IsRead packets i at r
    → r.pt ≡ pt
    → fault packets pt i ≡ first_of (first_of (fault_if (is_second_source packets i) SecondSource) (order_fault 1024 packets i)) (size_fault 262144 packets i)
fault-same packets pt i at r is same =
    let e : (r.pt == pt) ≡ true = grind (arith, nat_tests) in
    fault-is packets pt i at r is ∙ (rw e (regroup (fault_if (is_second_source packets i) SecondSource) (order_fault 1024 packets i)
    (size_fault 262144 packets i)))

-- a fault by the packets before
pub fault-earlier : (packets : List FlowPacket) (pt i at : ℕ) (r : Rtp) (f : PacketFault)
    → IsRead packets i at r
    → r.pt ≡ pt
    → first_of (fault_if (is_second_source packets i) SecondSource) (order_fault 1024 packets i) ≡ Some f
    → fault packets pt i ≡ Some f
fault-earlier packets pt i at r f is same has = fault-same packets pt i at r is same ∙ ap (λ first. first_of first (size_fault 262144 packets i)) has

-- no fault by the packets before
pub fault-size : (packets : List FlowPacket) (pt i at : ℕ) (r : Rtp)
    → IsRead packets i at r
    → r.pt ≡ pt
    → first_of (fault_if (is_second_source packets i) SecondSource) (order_fault 1024 packets i) ≡ None
    → fault packets pt i ≡ size_fault 262144 packets i
fault-size packets pt i at r is same has = fault-same packets pt i at r is same ∙ ap (λ first. first_of first (size_fault 262144 packets i)) has
