-- For a caller: what an answer says of the first fault.
use Rattle.std.proofs.Common.{◌≡◌, ◌+◌, ℕ, List, Option, Some, None, Ok, Err, refl}
use Rattle.timing_base.specs.Flows.{FirstFault, first_fault_below}
use Rattle.timing_base.specs.declared.packet.FlowPacket.{FlowPacket}
use Rattle.timing_base.specs.declared.packet.PacketFault.{PacketFault}
use Rattle.frame_group.specs.Cuts.{answer_at, cut_at, unless_fault}
use Rattle.frame_group.specs.Stands.{what}

ok-case : (first : Option FirstFault) (cut c : Option ℕ) → unless_fault first cut ≡ Ok c → (first ≡ None) × (c ≡ cut)
ok-case None cut c e = (refl, cc)
ok-case (Some first) cut c e = cc

err-case : (first : Option FirstFault) (cut : Option ℕ) (f : PacketFault) → unless_fault first cut ≡ Err f → what first ≡ Some f
err-case None cut f e = cc
err-case (Some first) cut f e = cc

-- an answer without a fault says that no packet up to this one has one
pub ok-none : (packets : List FlowPacket) (pt i : ℕ) (cut : Option ℕ) → answer_at packets pt i ≡ Ok cut
    → (first_fault_below packets pt (i + 1) ≡ None) × (cut ≡ cut_at packets i)
ok-none packets pt i cut e = ok-case (first_fault_below packets pt (i + 1)) (cut_at packets i) cut e

-- a fault is that of the least packet that has one
pub err-what : (packets : List FlowPacket) (pt i : ℕ) (f : PacketFault) → answer_at packets pt i ≡ Err f
    → what (first_fault_below packets pt (i + 1)) ≡ Some f
err-what packets pt i f e = err-case (first_fault_below packets pt (i + 1)) (cut_at packets i) f e
