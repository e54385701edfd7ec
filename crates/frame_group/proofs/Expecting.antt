-- The packet that a grouper expects is the one that goes on after those that it was fed.
use Rattle.std.proofs.Common.{◌≡◌, ◌-◌, ℕ, Bool, true, false, List, [], length, Option, Some, None, refl, ap, subst, sym, ◌∙◌, arith, append-nil}
use Rattle.std.specs.Option.{ForSome}
use Rattle.std.specs.Prelude.{is_some, ◌||◌, ◌==◌, if◌then◌else◌}
use Rattle.std.proofs.lemmas.Bool.Decides.{nat_tests}
use Rattle.timing_base.specs.Flows.{FirstFault, first_fault, has_marker, rtp}
use Rattle.timing_base.specs.declared.packet.FlowPacket.{FlowPacket}
use Rattle.timing_base.specs.declared.packet.PacketFault.{PacketFault}
use Rattle.timing_base.specs.declared.packet.Rtp.{Rtp}
use Rattle.frame_group.specs.Expected.{after, expected_after, going_on, is_nothing_expected, last_number_of, next_of, with_number}
use Rattle.frame_group.specs.Reads.{ComesAfter, IsAfter, after_number, expected_by}
use Rattle.frame_group.specs.Stands.{StandsBefore, StandsFor, expected_of, what}
use Rattle.frame_group.specs.declared.before.Before.{Before}
use Rattle.frame_group.specs.declared.grouper.Grouper.{Grouper}

-- whether nothing is expected, of this many packets
abbrev nothing : List FlowPacket → ℕ → Option FirstFault → Bool
nothing packets n first = (n == 0) || has_marker packets (n - 1) || is_some first

same-if : (a b : Bool) (x y : Option Rtp) → a ≡ b → x ≡ y → (if a then None else x) ≡ (if b then None else y)
same-if a b x y e f = rw (e, f) refl

or-false : (a b : Bool) → a ≡ b → a ≡ (false || b || false)
or-false a true e = e
or-false a false e = e

or-true : (a b : Bool) → (a || b || true) ≡ true
or-true true b = refl
or-true false true = refl
or-true false false = refl

-- the packet after this one
after-is : (packets : List FlowPacket) (pt n : ℕ) (b : Before) → IsAfter packets n b
    → next_of (record { number = b.number; timestamp = b.timestamp; marker = false; pt = pt; ssrc = b.source }) ≡ going_on packets pt n
after-is packets pt n b h = rw (h.number, h.timestamp, h.source) refl

expected-case : (packets : List FlowPacket) (pt n : ℕ) (fault : Option PacketFault) (b : Option Before) (first : Option FirstFault)
    → fault ≡ what first
    → (fault ≡ None → ComesAfter packets n b)
    → ForSome b (λ _. fault ≡ None)
    → expected_by pt b ≡ (if nothing packets n first then None else Some (going_on packets pt n))
expected-case packets pt n None b (Some first) e kept sound = cc
expected-case packets pt n (Some f) b None e kept sound = cc
expected-case packets pt n (Some f) None (Some first) e kept sound = rw (or-true (n == 0) (has_marker packets (n - 1))) refl
expected-case packets pt n (Some f) (Some b) (Some first) e kept sound = let none : ◌≡◌ {A = Option PacketFault} (Some f) None = sound b refl in cc
expected-case packets pt n None None None e kept sound = rw (kept refl) refl
expected-case packets pt n None (Some b) None e kept sound =
    let h : IsAfter packets n b = kept refl in
    let some : (n == 0) ≡ false = grind (arith, nat_tests, h.later) in
    let same : b.marker ≡ ((n == 0) || has_marker packets (n - 1) || false) = rw some (or-false b.marker (has_marker packets (n - 1)) h.marker) in
    same-if _ _ _ (Some (going_on packets pt n)) same (ap (λ (r : Rtp). Some r) (after-is packets pt n b h))

-- what a grouper expects by what it keeps is what is expected after the packets that it was fed
pub expected-is : (g : Grouper) (pt : ℕ) (packets : List FlowPacket) → StandsFor pt g packets → expected_of g ≡ expected_after packets pt
expected-is g pt packets s =
    let before : StandsBefore packets pt (length packets) g =
    subst (λ (l : List FlowPacket). StandsBefore l pt (length packets) g) (append-nil packets) (s.ahead []) in
    ap (λ (p : ℕ). expected_by p g.before) s.pt
    ∙ expected-case packets pt (length packets) g.fault g.before (first_fault packets pt) before.fault (λ none. (before.kept none).before) g.sound

-- nothing is expected before the first packet and after the marker
pub none-before : (pt : ℕ) (b : Option Before) → b ≡ None → None ≡ expected_by pt b
none-before pt b e = sym (ap (expected_by pt) e)

by-marker : (marker : Bool) (x : Option Rtp) → marker ≡ true → None ≡ (if marker then None else x)
by-marker true x e = refl
by-marker false x e = cc

no-marker : (marker : Bool) (x : Option Rtp) → marker ≡ false → x ≡ (if marker then None else x)
no-marker true x e = cc
no-marker false x e = refl

pub none-after : (pt : ℕ) (o : Option Before) (b : Before) → o ≡ Some b → b.marker ≡ true → None ≡ expected_by pt o
none-after pt o b e m = by-marker b.marker _ m ∙ sym (ap (expected_by pt) e)

-- else the next one
pub some-after : (pt : ℕ) (o : Option Before) (b : Before) → o ≡ Some b → b.marker ≡ false
    → Some (next_of (record { number = b.number; timestamp = b.timestamp; marker = false; pt = pt; ssrc = b.source })) ≡ expected_by pt o
some-after pt o b e m = no-marker b.marker _ m ∙ sym (ap (expected_by pt) e)

numbered-if : (marker : Bool) (number : ℕ) (p : Rtp)
    → (if marker then None else Some (next_of (with_number number p))) ≡ after_number number (if marker then None else Some (next_of p))
numbered-if true number p = refl
numbered-if false number p = refl

-- what is expected after a packet that differs from the one before by instant and number alone
pub expected-next : (pt at number : ℕ) (o : Option Before) (b : Before) → o ≡ Some b
    → expected_by pt (Some (record { at = at; number = number; source = b.source; timestamp = b.timestamp; marker = b.marker }))
    ≡ after_number number (expected_by pt o)
expected-next pt at number o b e =
    numbered-if b.marker number (record { number = b.number; timestamp = b.timestamp; marker = false; pt = pt; ssrc = b.source })
    ∙ ap (λ (x : Option Before). after_number number (expected_by pt x)) (sym e)

-- after the packet that was expected itself
pub expected-after : (p : Rtp) (o : Option Rtp) → Some p ≡ o → after_number p.number o ≡ after o
expected-after p o e = subst (λ (x : Option Rtp). after_number p.number x ≡ after x) e refl

goes-so : (nothing : Bool) (p q : Rtp) → Some p ≡ (if nothing then None else Some q) → p ≡ q
goes-so true p q e = cc
goes-so false p q e = cc

-- the packet that is expected goes on after the others
pub expected-goes : (packets : List FlowPacket) (pt : ℕ) (p : Rtp) → Some p ≡ expected_after packets pt → p ≡ going_on packets pt (length packets)
expected-goes packets pt p e = goes-so (is_nothing_expected packets pt) p (going_on packets pt (length packets)) e

-- what a grouper keeps of the packets that it was fed, which have no fault
kept-of : (g : Grouper) (pt : ℕ) (packets : List FlowPacket) → StandsFor pt g packets → first_fault packets pt ≡ None
    → ComesAfter packets (length packets) g.before
kept-of g pt packets s none =
    let before : StandsBefore packets pt (length packets) g =
    subst (λ (l : List FlowPacket). StandsBefore l pt (length packets) g) (append-nil packets) (s.ahead []) in
    (before.kept (before.fault ∙ ap what none)).before

last-by : (packets : List FlowPacket) (b : Bool) → (length packets == 0) ≡ b → last_number_of packets
    ≡ (if b then None else Some (rtp packets (length packets - 1)).number)
last-by packets b e = ap (λ (c : Bool). if c then None else Some (rtp packets (length packets - 1)).number) e

-- no number is kept before the first packet
pub last-none : (g : Grouper) (pt : ℕ) (packets : List FlowPacket) → StandsFor pt g packets → first_fault packets pt ≡ None → g.before ≡ None
    → None ≡ last_number_of packets
last-none g pt packets s none e =
    let kept : ComesAfter packets (length packets) None = subst (ComesAfter packets (length packets)) e (kept-of g pt packets s none) in
    sym (last-by packets true (grind (arith, nat_tests, kept)))

-- the number that is kept is that of the last packet
pub last-some : (g : Grouper) (b : Before) (pt : ℕ) (packets : List FlowPacket) → StandsFor pt g packets → first_fault packets pt ≡ None
    → g.before ≡ Some b → Some b.number ≡ last_number_of packets
last-some g b pt packets s none e =
    let kept : IsAfter packets (length packets) b = subst (ComesAfter packets (length packets)) e (kept-of g pt packets s none) in
    ap (λ (n : ℕ). Some n) kept.number ∙ sym (last-by packets false (grind (arith, nat_tests, kept.later)))
