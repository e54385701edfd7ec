use Rattle.std.proofs.Common.{◌≡◌, ◌<◌, ◌≤◌, ◌-◌, ◌*◌, length, slice_index, refl, ap, ◌∙◌, subst, arith}
use Rattle.std.proofs.Math.Nat.{mul-le-mul_left}
use Rattle.flow_measure.specs.Groups.{firsts_of, since_at}
use Rattle.flow_measure.specs.Occupancy.{buckets_of}
use Rattle.flow_measure.specs.Slope.{IsSlope}
use Rattle.flow_measure.proofs.Grouped.{groups-are, none-left}
use Rattle.flow_findings.specs.Details.{greatest_of, span_at}
use Rattle.timing_explain.specs.details.Overfull.{FindAll}
use Rattle.timing_explain.proofs.Detailed.{all-overfull}
use Rattle.timing_explain.proofs.details.packets.PacketDetails.finish.Goals as goal

pub returns : goal.returns
returns c = λ m n groups stamps records is one some h whole.
    let s = c.args.self.now in
    let w = s.walk in
    let buckets = buckets_of m n stamps in
    let rec = slice_index records in
    let stamp = slice_index stamps in
    let all : w.seen ≡ n * groups = h.seen_is ∙ whole in
    let wide : 0 < w.n = omega (arith, w.place_within) in
    let over : w.group ≡ groups = w.group_is ∙ groups-are w.seen n w.n groups wide h.n_is all in
    let none : w.place ≡ 0 = w.place_is ∙ none-left w.seen n w.n groups wide h.n_is all in
    let low : n * 1 ≤ n * groups = mul-le-mul_left n some in
    let few : 0 < length stamps = omega (arith, low, one, whole) in
    let seen : s.groups.firsts.seen ≡ groups = s.seen_is ∙ over in
    let times = h.times_are stamp (λ i few. refl) in
    let anchor = h.anchor_is few in
    record {
      overfull_are = all-overfull m n groups stamps records c.finish.result
          (subst (λ k. FindAll m n buckets rec stamp (length stamps) k c.finish.result) (s.whole_is ∙ over)
          (c.finish.ensures m n buckets rec stamp (length stamps)
          (h.overfull_counts buckets rec stamp (λ i few. refl) (λ i few. refl) (λ i few. refl))));
      first_is = h.first_is few;
      last_group_is = h.ended few none ∙ ap (λ k. firsts_of n stamp (k - 1)) over;
      span_is = times.span_is ∙ ap (greatest_of (span_at n stamp)) seen;
      slope_is = subst (λ a. IsSlope 8 (since_at m a (firsts_of n stamp)) groups c.slope.result) anchor
          (subst (λ k. IsSlope 8 (since_at m s.groups.n0 (firsts_of n stamp)) k c.slope.result) seen (c.slope.ensures m n stamp times));
    }
