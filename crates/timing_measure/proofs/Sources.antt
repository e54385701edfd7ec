-- The source of a flow, one packet more.
use Rattle.std.proofs.Common.{◌≡◌, ℕ, List, [], ◌∷◌, ◌++◌, Option, Some, None, Ok, Err, refl}
use Rattle.std.specs.Prelude.{Result}
use Rattle.timing_base.specs.declared.packet.FlowPacket.{FlowPacket}
use Rattle.timing_base.specs.declared.packet.PacketFault.{PacketFault}
use Rattle.timing_base.specs.declared.packet.Rtp.{Rtp}
use Rattle.timing_measure.specs.Measured.{first_source, source_or}

or-same : (r : Result Rtp PacketFault) (a b : Option ℕ) (s : ℕ) → source_or r a ≡ Some s → (a ≡ Some s → b ≡ Some s) → source_or r b ≡ Some s
or-same (Ok rtp) a b s e h = e
or-same (Err fault) a b s e h = h e

pub source-kept : (packets : List FlowPacket) (p : FlowPacket) (s : ℕ) → first_source packets ≡ Some s → first_source (packets ++ p ∷ []) ≡ Some s
source-kept [] p s e = cc
source-kept (x ∷ packets) p s e = or-same x.rtp (first_source packets) (first_source (packets ++ p ∷ [])) s e (λ f. source-kept packets p s f)

or-none : (r : Result Rtp PacketFault) (a b c : Option ℕ) → source_or r a ≡ None → (a ≡ None → b ≡ c) → source_or r b ≡ c
or-none (Ok rtp) a b c e h = cc
or-none (Err fault) a b c e h = h e

pub source-none : (packets : List FlowPacket) (p : FlowPacket) → first_source packets ≡ None → first_source (packets ++ p ∷ []) ≡ source_or p.rtp None
source-none [] p e = refl
source-none (x ∷ packets) p e =
    or-none x.rtp (first_source packets) (first_source (packets ++ p ∷ [])) (source_or p.rtp None) e (λ f. source-none packets p f)
