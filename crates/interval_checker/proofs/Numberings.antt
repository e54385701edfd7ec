-- The packets of a flow by their numbers, one packet on.
use Rattle.std.proofs.Common.{◌≡◌, ℕ, Bool, true, false, List, [], ◌∷◌, ◌++◌, refl, ap, sym, ◌∙◌, subst}
use Rattle.std.specs.Prelude.{None}
use Rattle.timing_base.specs.Judged.{judged, judged_as_numbered}
use Rattle.timing_base.specs.Numbered.{counted_from, counted_rtp, last_counted, number_after, numbered}
use Rattle.timing_base.specs.Shifts.{Shift}
use Rattle.timing_base.specs.declared.packet.FlowPacket.{FlowPacket}
use Rattle.timing_base.specs.declared.row.Unjudged.{Unjudged}
use Rattle.timing_base.proofs.Numberings.{counted_from-append, last_counted-append}
use Rattle.interval_checker.specs.Checked.{IsRefused}
use Rattle.interval_checker.specs.Numbers.{last_number, next_last, next_packet}
use Rattle.interval_checker.specs.Readings.{HasWalked}
use Rattle.interval_checker.specs.Walks.{StandsFor}
use Rattle.interval_checker.specs.declared.numbers.Numbers.{Numbers}
use Rattle.interval_checker.specs.declared.walk.Walk.{Walk}

-- the number to count on from, one packet on
last-next : (seq16 : Bool) (packets : List FlowPacket) (p : FlowPacket)
    → last_number seq16 (packets ++ p ∷ []) ≡ next_last seq16 (last_number seq16 packets) p
last-next false packets p = refl
last-next true packets p = last_counted-append None packets (p ∷ [])

-- the packets by their numbers, with one more and those after it
numbered-on : (seq16 : Bool) (packets : List FlowPacket) (p : FlowPacket) (rest : List FlowPacket)
    → (more : List FlowPacket) × (numbered seq16 (packets ++ p ∷ rest) ≡ numbered seq16 packets ++ next_packet seq16 (last_number seq16 packets) p ∷ more)
numbered-on false packets p rest = (rest, refl)
numbered-on true packets p rest = (
  counted_from (number_after (last_counted None packets) (counted_rtp (last_counted None packets) p.rtp)) rest,
  counted_from-append None packets (p ∷ rest),
)

numbered-next : (seq16 : Bool) (packets : List FlowPacket) (p : FlowPacket)
    → numbered seq16 (packets ++ p ∷ []) ≡ numbered seq16 packets ++ next_packet seq16 (last_number seq16 packets) p ∷ []
numbered-next false packets p = refl
numbered-next true packets p = counted_from-append None packets (p ∷ [])

-- one packet more was numbered, and fed to the walk
pub taken-next : (pt : ℕ) (shift : Shift) (old new : Numbers) (before after : Walk) (packets : List FlowPacket) (p : FlowPacket)
    → new.seq16 ≡ old.seq16 → new.last ≡ next_last old.seq16 old.last p
    → ((fed : List FlowPacket) → StandsFor pt shift before fed → StandsFor pt shift after (fed ++ next_packet old.seq16 old.last p ∷ []))
    → HasWalked pt shift old before packets → HasWalked pt shift new after (packets ++ p ∷ [])
taken-next pt shift old new before after packets p same last fed h =
    let whole : numbered old.seq16 (packets ++ p ∷ []) ≡ numbered old.seq16 packets ++ next_packet old.seq16 old.last p ∷ [] =
    numbered-next old.seq16 packets p ∙ ap (λ n. numbered old.seq16 packets ++ next_packet old.seq16 n p ∷ []) (sym h.last) in
    let walk : StandsFor pt shift after (numbered old.seq16 (packets ++ p ∷ [])) =
    subst (StandsFor pt shift after) (sym whole) (fed (numbered old.seq16 packets) h.walk) in
    record {
      last = last ∙ (ap (λ n. next_last old.seq16 n p) h.last
          ∙ (sym (last-next old.seq16 packets p) ∙ ap (λ s. last_number s (packets ++ p ∷ [])) (sym same)));
      walk = subst (λ s. StandsFor pt shift after (numbered s (packets ++ p ∷ []))) (sym same) walk;
    }

-- a packet with which the flow isn't judged
pub taken-ends : (pt : ℕ) (shift : Shift) (n : Numbers) (w : Walk) (packets : List FlowPacket) (p : FlowPacket) (rest : List FlowPacket) (why : Unjudged)
    → ((fed later : List FlowPacket) → StandsFor pt shift w fed
    → IsRefused (judged_as_numbered (fed ++ next_packet n.seq16 n.last p ∷ later) pt shift) why)
    → HasWalked pt shift n w packets → IsRefused (judged (packets ++ p ∷ rest) pt record { shift = shift; seq16 = n.seq16 }) why
taken-ends pt shift n w packets p rest why ends h =
    let on = numbered-on n.seq16 packets p rest in
    let whole : numbered n.seq16 (packets ++ p ∷ rest) ≡ numbered n.seq16 packets ++ next_packet n.seq16 n.last p ∷ on.0 =
    on.1 ∙ ap (λ l. numbered n.seq16 packets ++ next_packet n.seq16 l p ∷ on.0) (sym h.last) in
    subst (λ l. IsRefused (judged_as_numbered l pt shift) why) (sym whole) (ends (numbered n.seq16 packets) on.0 h.walk)
