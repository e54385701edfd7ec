use Rattle.std.proofs.Common.{◌≡◌, ◌<◌, ◌+◌, ◌||◌, ℕ, pos, FitsSigned, Bool, ap, ◌∙◌, sym, subst, rules, arith}
use Rattle.std.proofs.lemmas.Int.{to_z-of_z}
use Rattle.std.specs.Int.{w64, w128}
use Rattle.flow_measure.specs.Bins.{is_above}
use Rattle.flow_measure.specs.Fed.{FirstStands, IsLike}
use Rattle.flow_measure.specs.First.{IsFirst}
use Rattle.flow_measure.specs.Kinds.{breaks}
use Rattle.flow_measure.specs.Stands.{CountsBroken}
use Rattle.flow_measure.proofs.Named.{breaks-like, named-more}
use Rattle.flow_measure.proofs.kind.KindMeter.feed.Goals as goal

pub returns-clause-stands : goal.returns-clause-stands
returns-clause-stands c = λ n c_max full packets h is stands.
    let s = c.args.self.now in
    let held = c.args.held in
    let times = c.args.times in
    let seen = s.bucket.seen in
    let bucket_fits : FitsSigned w128 c.from-bucket.result = search rules in
    let held_fits : FitsSigned w64 held.occupancy = search rules in
    let occupancy_fits : FitsSigned w128 c.from-occupancy.result = search rules in
    let bucket : pos c.args.bucket ≡ c.from-bucket.result = sym c.from-bucket.ensures in
    let occupancy : held.occupancy ≡ c.from-occupancy.result = sym (c.from-occupancy.ensures ∙ to_z-of_z w64 held.occupancy held_fits) in
    let like : (j : ℕ) → j < times → IsLike c_max full packets (seen + j) c.args.bucket held =
    λ j few. is (seen + j) (omega arith) (omega (arith, few)) in
    let overfull : (j : ℕ) → j < times → packets.overfull (seen + j) ≡ c.is_above-overfull.result =
    λ j few. (like j few).overfull_is ∙ ap (is_above c_max) bucket ∙ ap (λ l. is_above l c.from-bucket.result) (sym h.c_max_is)
    ∙ sym (simp to_z-of_z at c.is_above-overfull.ensures) in
    let over : (j : ℕ) → j < times → packets.over (seen + j) ≡ c.is_above-over.result =
    λ j few. (like j few).over_is ∙ ap (is_above full) occupancy ∙ ap (λ l. is_above l c.from-occupancy.result) (sym h.full_is)
    ∙ sym (simp to_z-of_z at c.is_above-over.ensures) in
    let either : c.either-broken.result ≡ (c.is_above-overfull.result || c.is_above-over.result) || held.late =
    c.either-broken.ensures ∙ ap (λ (q : Bool). q || held.late) c.either.ensures in
    let broken : (j : ℕ) → j < times → breaks packets (seen + j) ≡ c.either-broken.result =
    λ j few. breaks-like c_max full packets (seen + j) c.args.bucket held c.is_above-overfull.result c.is_above-over.result c.either-broken.result
    (like j few) (sym (overfull j few)) (sym (over j few)) either in
    let next : seen + times ≡ c.feed.new.self.seen = sym c.feed.ensures.seen in
    let buffer_next : s.buffer.seen ≡ seen = s.buffer_is in
    record {
      c_max_is = c.feed.ensures.limit ∙ h.c_max_is;
      full_is = c.feed-2.ensures.limit ∙ h.full_is;
      bucket_is = c.feed.ensures.stands packets.bucket h.bucket_is
          (λ j few. (like j few).bucket_is ∙ bucket ∙ sym (to_z-of_z w128 c.from-bucket.result bucket_fits));
      buffer_is = c.feed-2.ensures.stands packets.occupancy h.buffer_is
          (λ j few. ap (λ k. packets.occupancy (k + j)) buffer_next ∙ (like j few).occupancy_is ∙ occupancy
          ∙ sym (to_z-of_z w128 c.from-occupancy.result occupancy_fits));
      broken_are = subst (CountsBroken n c.feed-3.new.self (breaks packets)) next (c.feed-3.ensures.stands n (breaks packets) seen h.broken_are broken);
      overfull = subst (λ k. IsFirst packets.overfull k c.first_with-self.result) next
          (c.first_with-self.ensures packets.overfull h.overfull overfull);
      over = subst (λ k. IsFirst packets.over k c.first_with-self-2.result) next (c.first_with-self-2.ensures packets.over h.over over);
      empty = subst (λ k. IsFirst packets.empty k c.first_with-self-3.result) next
          (c.first_with-self-3.ensures packets.empty h.empty (λ j few. (like j few).empty_is));
      named_is = subst (λ k. FirstStands packets k c.named_with-self.result) next
          (named-more packets seen times c.args.place s.named c.named_with-self.result c.either-broken.result c.requires.some h.named_is broken stands
          c.named_with-self.ensures);
    }
