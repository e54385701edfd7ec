-- The markers of a flow, with one packet more behind them.
use Rattle.std.proofs.Common.{◌≡◌, ◌<◌, ℕ, zero, suc, Bool, List, [], ◌∷◌, ◌++◌, length, refl, arith, ap, ◌∙◌}
use Rattle.std.specs.Prelude.{◌&&◌, nat_le, if◌then◌else◌}
use Rattle.std.proofs.Math.ListN.{get_or-append}
use Rattle.std.proofs.Math.Seq.{get_or-append_seam}
use Rattle.timing_base.specs.Flows.{has_marker, markers, no_packet, packet, places, read_or_zeros}
use Rattle.timing_base.specs.declared.packet.FlowPacket.{FlowPacket}

-- places go by what the test says below the end
pub places-same : (test other : ℕ → Bool) (from n : ℕ) → ((k : ℕ) → k < n → test k ≡ other k) → places test from n ≡ places other from n
places-same test other from zero same = refl
places-same test other from (suc n) same =
    ap (λ l. l ++ (if nat_le from n && test n then n ∷ [] else [])) (places-same test other from n (λ k h. same k (omega (arith, h))))
    ∙ ap (λ b. places other from n ++ (if nat_le from n && b then n ∷ [] else [])) (same n (omega arith))

-- the packets before are as they were
packet-before : (packets : List FlowPacket) (p : FlowPacket) (k : ℕ) → k < length packets → packet (packets ++ p ∷ []) k ≡ packet packets k
packet-before packets p k h = get_or-append packets (p ∷ []) no_packet k h

-- and the last is the one more
pub packet-last : (packets : List FlowPacket) (p : FlowPacket) → packet (packets ++ p ∷ []) (length packets) ≡ p
packet-last packets p = get_or-append_seam packets p [] no_packet

pub markers-before : (packets : List FlowPacket) (p : FlowPacket) → markers (packets ++ p ∷ []) 0 (length packets) ≡ markers packets 0 (length packets)
markers-before packets p =
    places-same (has_marker (packets ++ p ∷ [])) (has_marker packets) 0 (length packets)
    (λ k h. ap (λ (q : FlowPacket). (read_or_zeros q.rtp).marker) (packet-before packets p k h))
