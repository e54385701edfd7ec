-- A frame with a datagram is of none of the classes that stand before the last.
use Rattle.std.proofs.Common.{◌≡◌, ◌≤◌, ℕ, ◌+◌, ◌/◌, ◌%◌, ◌^◌, ◌==◌, ◌&&◌, Bool, true, false, nat_le, slice_index, if◌then◌else◌}
use Rattle.std.proofs.Common.{List, length, Option, Some, None, ◌⊎◌, inl, inr, refl, sym, ap, subst, ◌∙◌, arith, eq-eqb, eqb-true, leb-true, le-leb, true≢false}
use Rattle.std.proofs.lemmas.Bool.{and_from, and_left, and_parts, and_right, ne_eqb, or_from}
use Rattle.udp_rtp.specs.Frames.{Datagram, datagram_at, datagram_from, datagram_of, ip_place, is_udp_at, udp_place}
use Rattle.udp_rtp.specs.Numbers.{number16}
use Rattle.udp_rtp.specs.Classes.{class_at, class_of, has_kind, has_tagged_kind, has_tags, is_of_kind}
use Rattle.udp_rtp.specs.declared.class.FrameClass.{FrameClass}
use Rattle.udp_rtp.specs.declared.class.FrameClass.TheVariants.{Empty, Tags, Ipv6, Other, NotUdp, Fragment, Broken}

some_same : {X : Type 0} (a b : X) → Some a ≡ Some b → a ≡ b
some_same a b e = cc

none_some : {X A : Type 0} (a : X) → None ≡ Some a → A
none_some a e = absurd (cc)

-- the place of a header by three tests: of the type field, for IPv4 and for a tag, and of the one behind a tag
abbrev place_by : (plain tag tagged : Bool) → Option ℕ
place_by plain tag tagged = if plain then Some 14 else if tag && tagged then Some 18 else None

-- so the numbers there are these
place_kinds : (a b e : ℕ) → place_by (a == 0x0800) (a == 0x8100) (b == 0x0800) ≡ Some e
    → ((a ≡ 0x0800) × (e ≡ 14)) ⊎ ((a ≡ 0x8100) × (b ≡ 0x0800) × (e ≡ 18))
place_kinds a b e h = by (a == 0x0800) refl (a == 0x8100) refl (b == 0x0800) refl h
  where
    by : (x : Bool) → (a == 0x0800) ≡ x → (y : Bool) → (a == 0x8100) ≡ y → (z : Bool) → (b == 0x0800) ≡ z
        → place_by x y z ≡ Some e → ((a ≡ 0x0800) × (e ≡ 14)) ⊎ ((a ≡ 0x8100) × (b ≡ 0x0800) × (e ≡ 18))
    by true p y q z r is = inl (eqb-true a 0x0800 p, sym (some_same 14 e is))
    by false p true q true r is = inr (eqb-true a 0x8100 q, eqb-true b 0x0800 r, sym (some_same 18 e is))
    by false p true q false r is = none_some e is
    by false p false q z r is = none_some e is

-- the header of a frame with a datagram is that of a UDP datagram
behind : (frame : List ℕ) (place : Option ℕ) (d : Datagram) → datagram_from frame place ≡ Some d
    → (e : ℕ) × (place ≡ Some e) × (is_udp_at frame e ≡ true)
behind frame None d h = none_some d h
behind frame (Some e) d h = by (is_udp_at frame e) refl h
  where
    by : (b : Bool) → is_udp_at frame e ≡ b → (if b then Some (datagram_at frame e) else None) ≡ Some d
        → (f : ℕ) × (Some e ≡ Some f) × (is_udp_at frame f ≡ true)
    by true p is = (e, refl, p)
    by false p is = none_some d is

-- what is said of such a header
record IsUdp (frame : List ℕ) (e : ℕ) : Type 0 where
  protocol : (slice_index frame (e + 9) == 17) ≡ true
  whole : (number16 frame (e + 6) % 2 ^ 14 == 0) ≡ true
  long : e + 24 ≤ length frame

udp-parts : (frame : List ℕ) (e : ℕ) → is_udp_at frame e ≡ true → IsUdp frame e
udp-parts frame e h =
    let a = slice_index frame e / 16 == 4 in
    let b = nat_le 5 (slice_index frame e % 16) in
    let c = slice_index frame (e + 9) == 17 in
    let d = number16 frame (e + 6) % 2 ^ 14 == 0 in
    let f = nat_le (udp_place frame e + 4) (length frame) in
    let one = and_parts (a && b && c && d) f h in
    let two = and_parts (a && b && c) d one.0 in
    let three = and_parts (a && b) c two.0 in
    let four = and_parts a b three.0 in
    let words = leb-true 5 (slice_index frame e % 16) four.1 in
    let ports = leb-true (udp_place frame e + 4) (length frame) one.1 in
    record { protocol = three.1; whole = two.1; long = omega (arith, words, ports) }

-- the class by its tests
pick : (a b c d e : Bool) (x y : FrameClass) → a ≡ false → b ≡ false → c ≡ false → (d ≡ true → x ≡ Broken) → (d ≡ false → (e ≡ true) × (y ≡ Broken))
    → (if a then Empty else if b then Tags else if c then Ipv6 else if d then x else if e then y else Other) ≡ Broken
pick true b c d e x y p q r s t = absurd (true≢false p)
pick false true c d e x y p q r s t = absurd (true≢false q)
pick false false true d e x y p q r s t = absurd (true≢false r)
pick false false false true e x y p q r s t = s refl
pick false false false false true x y p q r s t = (t refl).1
pick false false false false false x y p q r s t = absurd (true≢false (sym (t refl).0))

-- the class of a header of UDP that is no fragment
at_udp : (x y z : Bool) → y ≡ true → z ≡ true → (if x then (if y then (if z then Broken else Fragment) else NotUdp) else Broken) ≡ Broken
at_udp true true true q r = refl
at_udp true true false q r = absurd (true≢false (sym r))
at_udp true false z q r = absurd (true≢false (sym q))
at_udp false y z q r = refl

class_at-udp : (frame : List ℕ) (e : ℕ) → IsUdp frame e → class_at frame e ≡ Broken
class_at-udp frame e udp =
    at_udp (nat_le (e + 20) (length frame) && (slice_index frame e / 16 == 4)) (slice_index frame (e + 9) == 17)
    (number16 frame (e + 6) % 2 ^ 14 == 0) udp.protocol udp.whole

-- a type field with another number, and with this one
other_kind : (frame : List ℕ) (place a kind : ℕ) → number16 frame place ≡ a → (a == kind) ≡ false → has_kind frame place kind ≡ false
other_kind frame place a kind is other =
    and_right (nat_le (place + 2) (length frame)) (number16 frame place == kind) (ap (λ (n : ℕ). n == kind) is ∙ other)

own_kind : (frame : List ℕ) (place kind : ℕ) → number16 frame place ≡ kind → place + 2 ≤ length frame → has_kind frame place kind ≡ true
own_kind frame place kind is long =
    and_from (nat_le (place + 2) (length frame)) (number16 frame place == kind)
    (le-leb (place + 2) (length frame) long) (eq-eqb (number16 frame place) kind is)

-- the class, where the tests before the place of the header fail
broken : (frame : List ℕ) → 16 ≤ length frame → has_tags frame ≡ false → is_of_kind frame 0x86dd ≡ false
    → (has_kind frame 12 0x0800 ≡ true → class_at frame 14 ≡ Broken)
    → (has_kind frame 12 0x0800 ≡ false → (has_tagged_kind frame 0x0800 ≡ true) × (class_at frame 18 ≡ Broken)) → class_of frame ≡ Broken
broken frame long tags ipv6 plain tagged =
    let some : (length frame == 0) ≡ false = ne_eqb (length frame) 0 (λ e. omega (arith, e, long)) in
    pick (length frame == 0) (has_tags frame) (is_of_kind frame 0x86dd) (has_kind frame 12 0x0800) (has_tagged_kind frame 0x0800)
    (class_at frame 14) (class_at frame 18) some tags ipv6 plain tagged

pub datagram-broken : (frame : List ℕ) (d : Datagram) → datagram_of frame ≡ Some d → class_of frame ≡ Broken
datagram-broken frame d h = by (place_kinds (number16 frame 12) (number16 frame 16) found.0 found.1)
  where
    found : (e : ℕ) × (ip_place frame ≡ Some e) × (is_udp_at frame e ≡ true)
    found = behind frame (ip_place frame) d h

    by : ((number16 frame 12 ≡ 0x0800) × (found.0 ≡ 14)) ⊎ ((number16 frame 12 ≡ 0x8100) × (number16 frame 16 ≡ 0x0800) × (found.0 ≡ 18))
        → class_of frame ≡ Broken
    by (inl k) =
        let udp = udp-parts frame 14 (subst (λ (e : ℕ). is_udp_at frame e ≡ true) k.1 found.2) in
        let untagged : has_kind frame 12 0x8100 ≡ false = other_kind frame 12 0x0800 0x8100 k.0 refl in
        broken frame (omega (arith, udp.long))
        (or_from _ _ (other_kind frame 12 0x0800 0x88a8 k.0 refl) (or_from _ _ (and_left _ _ untagged) (and_left _ _ untagged)))
        (or_from _ _ (other_kind frame 12 0x0800 0x86dd k.0 refl) (and_left _ _ untagged))
        (λ _. class_at-udp frame 14 udp)
        (λ none. absurd (true≢false (sym (own_kind frame 12 0x0800 k.0 (omega (arith, udp.long))) ∙ none)))
    by (inr k) =
        let udp = udp-parts frame 18 (subst (λ (e : ℕ). is_udp_at frame e ≡ true) k.2 found.2) in
        let other : (kind : ℕ) → (0x0800 == kind) ≡ false → has_tagged_kind frame kind ≡ false =
        λ kind differs. and_right (has_kind frame 12 0x8100) (has_kind frame 16 kind) (other_kind frame 16 0x0800 kind k.1 differs) in
        broken frame (omega (arith, udp.long))
        (or_from _ _ (other_kind frame 12 0x8100 0x88a8 k.0 refl) (or_from _ _ (other 0x8100 refl) (other 0x88a8 refl)))
        (or_from _ _ (other_kind frame 12 0x8100 0x86dd k.0 refl) (other 0x86dd refl))
        (λ yes. absurd (true≢false (sym yes ∙ other_kind frame 12 0x8100 0x0800 k.0 refl)))
        (λ _. (
          and_from _ _ (own_kind frame 12 0x8100 k.0 (omega (arith, udp.long))) (own_kind frame 16 0x0800 k.1 (omega (arith, udp.long))),
          class_at-udp frame 18 udp,
        ))
