-- The packet records of a capture that were taken for two flows that are compared.
use Rattle.std.specs.Prelude.{◌≡◌, ◌≤◌, ◌+◌, ◌^◌, ◌||◌, ℕ, Bool, true, false, max, not, List, [], ◌++◌}
use Rattle.std.proofs.Common.{arith, refl, sym, subst, append-nil, append_assoc, ap, ◌∙◌}
use Rattle.std.proofs.lemmas.List.Elements.{filter_map-append}
use Rattle.timing_base.specs.Captures.{Record}
use Rattle.timing_base.specs.Media.{Media}
use Rattle.timing_base.specs.Targets.{target_of}
use Rattle.timing_base.specs.declared.packet.FlowPacket.{FlowPacket}
use Rattle.path_skew.specs.Stands.{StandsFor, count_first, count_second}
use Rattle.udp_rtp.specs.Flow.{flow_packet, is_same_target}
use Rattle.timing_reach.specs.skew.Added.{Adds, taken_of}
use Rattle.timing_reach.specs.skew.Paired.{IsSameFlow, packets_in}
use Rattle.timing_reach.specs.declared.skew.paired.PairedFlow.{PairedFlow}
use Rattle.timing_reach.specs.declared.skew.pairing.Pairing.{Pairing}

-- these packet records were taken, and no others
pub record PairsOn (old new : Pairing) (more : List Record) : Type 0 where
  pub first : IsSameFlow old.first new.first
  pub second : IsSameFlow old.second new.second
  pub adds : Adds old.skew new.skew (packets_in old.first more) (packets_in old.second more)

-- whether no record of this capture can be a packet of both flows: only one of them is in it, or they go to different
-- targets
abbrev pub are_apart : Pairing → Bool
are_apart p =
    not p.first.is_here
    || (not p.second.is_here || not (is_same_target (target_of p.first.media) (target_of p.second.media)))

-- the number of packets of the flow that has more
abbrev pub pair_given : Pairing → ℕ
pair_given p = max (count_first p.skew) (count_second p.skew)

-- `count` more packet records can be taken
abbrev pub HasRoom : (number count : ℕ) → Pairing → Type 0
HasRoom number count p = pair_given p + count ≤ 2 ^ 41

-- if many more records can be taken, so can fewer
pub room_less : (number few many : ℕ) (p : Pairing) → few ≤ many → HasRoom number many p → HasRoom number few p
room_less number few many p less room = omega (arith, less, room)

-- lemmas for taking no record, and some records and then others
pub taken-none : (b : Bool) (m : Media) → taken_of b m [] ≡ []
taken-none true m = refl
taken-none false m = refl

taken-more : (b : Bool) (m : Media) (x y : List Record) → taken_of b m x ++ taken_of b m y ≡ taken_of b m (x ++ y)
taken-more true m x y = sym (filter_map-append (flow_packet m) x y)
taken-more false m x y = refl

added-none : (b : Bool) (m : Media) (f : List FlowPacket) → f ≡ f ++ taken_of b m []
added-none b m f = sym (append-nil f) ∙ ap (λ l. f ++ l) (sym (taken-none b m))

same-none : (x : PairedFlow) → IsSameFlow x x
same-none x = record { media = refl; is_here = refl }

-- taking no record changes nothing
pub pairs_none : (x : Pairing) → PairsOn x x []
pairs_none x = record {
  first = same-none x.first;
  second = same-none x.second;
  adds = λ f g h.
      subst (λ l. StandsFor x.skew l (g ++ packets_in x.second [])) (added-none x.first.is_here x.first.media f)
      (subst (λ l. StandsFor x.skew f l) (added-none x.second.is_here x.second.media g) h);
}

same-more : (x y z : PairedFlow) → IsSameFlow x y → IsSameFlow y z → IsSameFlow x z
same-more x y z h k = record { media = k.media ∙ h.media; is_here = k.is_here ∙ h.is_here }

added-more : (x y : PairedFlow) (f : List FlowPacket) (a b : List Record) → IsSameFlow x y
    → (f ++ packets_in x a) ++ packets_in y b ≡ f ++ packets_in x (a ++ b)
added-more x y f a b same =
    ap (λ t. (f ++ packets_in x a) ++ taken_of t y.media b) same.is_here
    ∙ ap (λ (m : Media). (f ++ packets_in x a) ++ taken_of x.is_here m b) same.media
    ∙ append_assoc f (packets_in x a) (packets_in x b)
    ∙ ap (λ l. f ++ l) (taken-more x.is_here x.media a b)

-- taking some records and then others is taking both
pub pairs_more : (x y z : Pairing) (a b : List Record) → PairsOn x y a → PairsOn y z b → PairsOn x z (a ++ b)
pairs_more x y z a b h k = record {
  first = same-more x.first y.first z.first h.first k.first;
  second = same-more x.second y.second z.second h.second k.second;
  adds = λ f g stood.
      subst (λ l. StandsFor z.skew l (g ++ packets_in x.second (a ++ b))) (added-more x.first y.first f a b h.first)
      (subst (λ l. StandsFor z.skew ((f ++ packets_in x.first a) ++ packets_in y.first b) l)
      (added-more x.second y.second g a b h.second)
      (k.adds (f ++ packets_in x.first a) (g ++ packets_in x.second a) (h.adds f g stood)));
}
