-- One record more of two flows that are compared.
use Rattle.std.specs.Prelude.{◌||◌, IfOk, IfSome, Result, Ok, Err, if◌then◌else◌, is_some, not}
use Rattle.std.specs.List.{cons_option}
use Rattle.std.proofs.Common.{◌≡◌, ℕ, Bool, true, false, List, [], ◌∷◌, ◌++◌, length, Option, Some, None, refl, arith, ap, ◌∙◌, sym, subst, append-nil}
use Rattle.std.proofs.lemmas.Bool.{false≢true}
use Rattle.timing_base.proofs.Targets.{same-target, target-itself}
use Rattle.timing_base.specs.Captures.{Record}
use Rattle.timing_base.specs.Media.{Media}
use Rattle.timing_base.specs.Targets.{target_of}
use Rattle.timing_base.specs.declared.packet.FlowPacket.{FlowPacket}
use Rattle.timing_base.specs.declared.target.Target.{Target}
use Rattle.path_skew.specs.Stands.{StandsFor}
use Rattle.path_skew.specs.declared.skew.Skew.{Skew}
use Rattle.udp_rtp.specs.Flow.{datagram_packet, flow_packet, is_same_target}
use Rattle.udp_rtp.specs.Frames.{Datagram, datagram_of}
use Rattle.udp_rtp.specs.Reading.{reading}
use Rattle.timing_reach.specs.skew.Added.{Adds, taken_of}
use Rattle.timing_reach.specs.skew.Paired.{IsSameFlow, packets_in}
use Rattle.timing_reach.specs.skew.Pairs.{PairsOn, are_apart}
use Rattle.timing_reach.specs.declared.skew.pairing.Pairing.{Pairing}

-- nothing goes to two targets
two-targets : (d a b : Target) → is_same_target a b ≡ false → is_same_target d a ≡ true → is_same_target d b ≡ true → ⊥
two-targets d a b differ one other = false≢true (sym differ ∙ subst (λ x. is_same_target a x ≡ true) (sym (same-target d a one) ∙ same-target d b other) (target-itself a))

none-if : (b c : Bool) (x p : FlowPacket) → (b ≡ true → c ≡ true → ⊥) → (if b then Some x else None) ≡ Some p → (if c then Some x else None) ≡ None
none-if b false x p never is = refl
none-if true true x p never is = absurd (never refl refl)
none-if false true x p never is = absurd (false≢true (ap is_some is))

none-of : (m n : Media) (number stamp : ℕ) (o : Option Datagram) (p : FlowPacket)
    → ((d : Target) → is_same_target d (target_of m) ≡ true → is_same_target d (target_of n) ≡ true → ⊥) → datagram_packet m number stamp o ≡ Some p
    → datagram_packet n number stamp o ≡ None
none-of m n number stamp None p never is = refl
none-of m n number stamp (Some d) p never is =
    none-if (is_same_target d.target (target_of m)) (is_same_target d.target (target_of n)) (record { rec = number; at = stamp; rtp = reading d.payload }) p
    (never d.target) is

not-true : (b : Bool) → not b ≡ true → b ≡ false
not-true false e = refl
not-true true e = absurd (false≢true e)

some-of : (p : FlowPacket) (o : Option FlowPacket) → p ∷ [] ≡ cons_option o [] → (q : FlowPacket) × (o ≡ Some q)
some-of p (Some q) e = (q, refl)
some-of p None e =
    let none : 1 ≡ 0 = ap length e in absurd (omega (arith, none))

-- of two flows that are apart one has no packet where the other has one
none-second : (a b : Bool) (m n : Media) (r : Record) (p : FlowPacket) → (not a || (not b || not (is_same_target (target_of m) (target_of n)))) ≡ true
    → p ∷ [] ≡ taken_of a m (r ∷ []) → taken_of b n (r ∷ []) ≡ []
none-second a false m n r p apart is = refl
none-second false true m n r p apart is =
    let none : 1 ≡ 0 = ap length is in absurd (omega (arith, none))
none-second true true m n r p apart is =
    let q = some-of p (flow_packet m r) is in
    ap (λ o. cons_option o []) (none-of m n r.number r.stamp (datagram_of r.bytes) q.0
    (λ d one other. two-targets d (target_of m) (target_of n) (not-true (is_same_target (target_of m) (target_of n)) apart) one other) q.1)

none-first : (a b : Bool) (m n : Media) (r : Record) (p : FlowPacket) → (not a || (not b || not (is_same_target (target_of m) (target_of n)))) ≡ true
    → p ∷ [] ≡ taken_of b n (r ∷ []) → taken_of a m (r ∷ []) ≡ []
none-first false b m n r p apart is = refl
none-first true false m n r p apart is =
    let none : 1 ≡ 0 = ap length is in absurd (omega (arith, none))
none-first true true m n r p apart is =
    let q = some-of p (flow_packet n r) is in
    ap (λ o. cons_option o []) (none-of n m r.number r.stamp (datagram_of r.bytes) q.0
    (λ d one other. two-targets d (target_of m) (target_of n) (not-true (is_same_target (target_of m) (target_of n)) apart) other one) q.1)

-- a packet of a flow that is in its capture
pub packet-here : (here : Bool) (m : Media) (r : Record) (p : FlowPacket) → here ≡ true → flow_packet m r ≡ Some p → p ∷ [] ≡ taken_of here m (r ∷ [])
packet-here true m r p e is = sym (ap (λ o. cons_option o []) is)
packet-here false m r p e is = absurd (false≢true e)

-- the record of a packet of one flow alone was taken
pub pairs-first : (old new : Pairing) (r : Record) (o : Option FlowPacket) → are_apart old ≡ true → is_some o ≡ true → IsSameFlow old.first new.first
    → IsSameFlow old.second new.second → cons_option o [] ≡ packets_in old.first (r ∷ []) → Adds old.skew new.skew (cons_option o []) []
    → PairsOn old new (r ∷ [])
pairs-first old new r None apart some first second is adds = absurd (false≢true some)
pairs-first old new r (Some p) apart some first second is adds = record {
  first = first;
  second = second;
  adds = subst (λ l. Adds old.skew new.skew l (packets_in old.second (r ∷ []))) is
      (subst (λ l. Adds old.skew new.skew (p ∷ []) l)
      (sym (none-second old.first.is_here old.second.is_here old.first.media old.second.media r p apart is)) adds);
}

pub pairs-second : (old new : Pairing) (r : Record) (o : Option FlowPacket) → are_apart old ≡ true → is_some o ≡ true → IsSameFlow old.first new.first
    → IsSameFlow old.second new.second → IfSome o (λ p. p ∷ [] ≡ packets_in old.second (r ∷ [])) → Adds old.skew new.skew [] (cons_option o [])
    → PairsOn old new (r ∷ [])
pairs-second old new r None apart some first second is adds = absurd (false≢true some)
pairs-second old new r (Some p) apart some first second is adds = record {
  first = first;
  second = second;
  adds = subst (λ l. Adds old.skew new.skew (packets_in old.first (r ∷ [])) l) is
      (subst (λ l. Adds old.skew new.skew l (p ∷ []))
      (sym (none-first old.first.is_here old.second.is_here old.first.media old.second.media r p apart is)) adds);
}

-- to one flow, and then to the other
pub adds-both : {T E : Type 0} (result : Result T E) (old mid new : Skew) (f g : List FlowPacket) → Adds old mid f [] → IfOk result (λ _. Adds mid new [] g)
    → IfOk result (λ _. Adds old new f g)
adds-both (Ok x) old mid new f g first second = λ a b h.
    subst (λ l. StandsFor new l (b ++ g)) (append-nil (a ++ f)) (subst (λ l. StandsFor new ((a ++ f) ++ []) (l ++ g)) (append-nil b)
    (second (a ++ f) (b ++ []) (first a b h)))
adds-both (Err e) old mid new f g first second = tt

-- the record of two packets was taken
pub pairs-on : {T E : Type 0} (result : Result T E) (old new : Pairing) (r : Record) (f g : List FlowPacket) → IsSameFlow old.first new.first
    → IsSameFlow old.second new.second → f ≡ packets_in old.first (r ∷ []) → g ≡ packets_in old.second (r ∷ [])
    → IfOk result (λ _. Adds old.skew new.skew f g) → IfOk result (λ _. PairsOn old new (r ∷ []))
pairs-on (Ok x) old new r f g one two first second adds = record {
  first = one;
  second = two;
  adds = subst (λ l. Adds old.skew new.skew l (packets_in old.second (r ∷ []))) first (subst (λ l. Adds old.skew new.skew f l) second adds);
}
pairs-on (Err e) old new r f g one two first second adds = tt
