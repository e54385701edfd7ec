-- The packets of a flow, one more, and a part from their start.
use Rattle.std.proofs.Common.{◌≡◌, ℕ, List, [], ◌++◌, length, Option, ap, ◌∙◌, sym, subst, take, drop}
use Rattle.std.specs.List.{cons_option}
use Rattle.std.proofs.Math.Seq.{take-append_seam}
use Rattle.std.proofs.lemmas.List.{take-append-drop}
use Rattle.timing_base.specs.declared.packet.FlowPacket.{FlowPacket}

-- a record that is a packet of the flow, or isn't
pub one-packet : (P : List FlowPacket → Type 0) (packets : List FlowPacket) (o also : Option FlowPacket) → also ≡ o → P (packets ++ cons_option o [])
    → P (packets ++ cons_option also [])
one-packet P packets o also e h = subst (λ x. P (packets ++ cons_option x [])) (sym e) h

-- as many of a list as a part from its start has
pub take-again : {X : Type 0} (k : ℕ) (xs : List X) → take (length (take k xs)) xs ≡ take k xs
take-again k xs =
    ap (take (length (take k xs))) (sym (take-append-drop k xs)) ∙ take-append_seam (take k xs) (drop k xs)
