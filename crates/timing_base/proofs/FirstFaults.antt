-- The first fault of a flow, packet by packet.
use Rattle.std.proofs.Common.{◌≡◌, ◌≤◌, ◌<◌, ◌+◌, ◌-◌, ℕ, zero, suc, List, length, Option, Some, None, refl, arith, ap, ◌∙◌, subst, add-one, inl, inr}
use Rattle.timing_base.specs.declared.packet.FlowPacket.{FlowPacket}
use Rattle.timing_base.specs.declared.packet.PacketFault.{PacketFault}
use Rattle.timing_base.specs.Flows.{FirstFault}
use Rattle.std.proofs.lemmas.Bool.Decides.{leb_tells}
use Rattle.timing_base.specs.Flows.{IsFirstFault, fault, first_fault, first_fault_below, earlier_or}

-- no fault yet, and none here
pub no_fault-next : (packets : List FlowPacket) (pt i : ℕ) → first_fault_below packets pt i ≡ None → fault packets pt i ≡ None
    → first_fault_below packets pt (i + 1) ≡ None
no_fault-next packets pt i before here = rw add-one (ap (λ first. earlier_or first i (fault packets pt i)) before ∙ ap (earlier_or None i) here)

-- no fault yet, and one here
pub fault-here : (packets : List FlowPacket) (pt i : ℕ) (f : PacketFault) → first_fault_below packets pt i ≡ None → fault packets pt i ≡ Some f
    → first_fault_below packets pt (i + 1) ≡ Some record { index = i; fault = f }
fault-here packets pt i f before here = rw add-one (ap (λ first. earlier_or first i (fault packets pt i)) before ∙ ap (earlier_or None i) here)

kept-add : (packets : List FlowPacket) (pt k m : ℕ) (x : FirstFault) → first_fault_below packets pt k ≡ Some x → first_fault_below packets pt (m + k) ≡ Some x
kept-add packets pt k zero x e = let s : zero + k ≡ k = omega arith in ap (first_fault_below packets pt) s ∙ e
kept-add packets pt k (suc m) x e =
    let s : suc m + k ≡ suc (m + k) = omega arith in
    ap (first_fault_below packets pt) s ∙ ap (λ first. earlier_or first (m + k) (fault packets pt (m + k))) (kept-add packets pt k m x e)

-- an earlier fault stays the first
pub fault-kept : (packets : List FlowPacket) (pt k n : ℕ) (x : FirstFault) → k ≤ n → first_fault_below packets pt k ≡ Some x
    → first_fault_below packets pt n ≡ Some x
fault-kept packets pt k n x h e =
    let s : n ≡ (n - k) + k = omega arith in
    ap (first_fault_below packets pt) s ∙ kept-add packets pt k (n - k) x e

earlier-none : (first : Option FirstFault) (n : ℕ) (here : Option PacketFault) → earlier_or first n here ≡ None → (first ≡ None) × (here ≡ None)
earlier-none None n None e = (refl, refl)
earlier-none None n (Some f) e = cc
earlier-none (Some x) n here e = cc

-- where there is no first fault, no packet has one
pub no_fault-at : (packets : List FlowPacket) (pt n k : ℕ) → first_fault_below packets pt n ≡ None → k < n → fault packets pt k ≡ None
no_fault-at packets pt zero k e h = absurd (omega arith)
no_fault-at packets pt (suc n) k e h =
    let both = earlier-none _ _ _ e in
    elim (leb_tells n k) as (λ _. fault packets pt k ≡ None) [
      | inl s ↦ (let e : k ≡ n = omega (arith, s.1) in ap (fault packets pt) e ∙ both.1)
      | inr l ↦ no_fault-at packets pt n k both.0 l.1
    ]

first-case : (packets : List FlowPacket) (pt n : ℕ) (x : FirstFault) (first : Option FirstFault) (here : Option PacketFault)
    → first_fault_below packets pt n ≡ first → fault packets pt n ≡ here
    → earlier_or first n here ≡ Some x → ((y : FirstFault) → first ≡ Some y
    → (y.index < n) × (fault packets pt y.index ≡ Some y.fault) × ((k : ℕ) → k < y.index → fault packets pt k ≡ None))
    → (x.index < n + 1) × (fault packets pt x.index ≡ Some x.fault) × ((k : ℕ) → k < x.index → fault packets pt k ≡ None)
first-case packets pt n x (Some y) here f h e before =
    let r = before x e in
    (omega (arith, r.0), r.1, r.2)
first-case packets pt n x None None f h e before = cc
first-case packets pt n x None (Some fault_here) f h e before =
    let same : record { index = n; fault = fault_here } ≡ x = cc in
    subst (λ (y : FirstFault). (y.index < n + 1) × (fault packets pt y.index ≡ Some y.fault) × ((k : ℕ) → k < y.index → fault packets pt k ≡ None)) same
    (omega arith, h, λ k l. no_fault-at packets pt n k f l)

first-below : (packets : List FlowPacket) (pt n : ℕ) (x : FirstFault) → first_fault_below packets pt n ≡ Some x
    → (x.index < n) × (fault packets pt x.index ≡ Some x.fault) × ((k : ℕ) → k < x.index → fault packets pt k ≡ None)
first-below packets pt zero x e = cc
first-below packets pt (suc n) x e =
    let r = first-case packets pt n x (first_fault_below packets pt n) (fault packets pt n) refl refl e (first-below packets pt n) in
    rw add-one at r

-- the first fault is that of the least packet that has one
pub first_fault-is : (packets : List FlowPacket) (pt : ℕ) (x : FirstFault) → first_fault packets pt ≡ Some x → IsFirstFault packets pt x
first_fault-is packets pt x e =
    let r = first-below packets pt (length packets) x e in
    record { within = r.0; has = r.1; least = r.2 }
