use Rattle.std.proofs.Common.{true, false, slice_index, refl, ◌∙◌}
use Rattle.flow_measure.specs.Groups.{firsts_of, lasts_of, latency_at, offset_at, since_at}
use Rattle.flow_measure.specs.Occupancy.{buckets_of}
use Rattle.flow_measure.specs.Run.{anchor_in}
use Rattle.flow_measure.proofs.Packets.{occupancies}
use Rattle.flow_page.proofs.lemmas.drawing.Finishing.{curve-of, curves-all, groups-came, levels-are}
use Rattle.flow_page.proofs.drawing.columns.RunColumns.curves.Goals as goal

pub returns : goal.returns
returns c = λ m n groups stamps timestamps is some h whole.
    let s = c.args.self.now in
    let x = s.groups.curves in
    let k = s.packets in
    let gapped = occupancies m n stamps true is some in
    let linear = occupancies m n stamps false is some in
    let buckets = buckets_of m n stamps in
    let p = h.packets_draw in
    let g = h.groups_draw in
    let came = groups-came n groups s.groups g.n_is (g.seen_is ∙ whole) in
    let anchor = anchor_in m stamps in
    let stamp = slice_index stamps in
    let ticks = slice_index timestamps in
    let drawn = curves-all m n s.groups stamps timestamps g in
    record {
      gapped_at = gapped.0;
      linear_at = linear.0;
      gapped_are = gapped.1;
      linear_are = linear.1;
      bucket = levels-are n _ k.bucket buckets c.in_ok-curve.field-0 c.in_ok-eye.field-0 c.in_ok-curve.ensures c.in_ok-eye.ensures
          (p.bucket_draws buckets (λ i few. refl)) (k.bucket_n ∙ p.n_is) (k.bucket_is ∙ p.seen_is);
      gapped = levels-are n _ k.gapped gapped.0 c.in_ok-curve-2.field-0 c.in_ok-eye-2.field-0 c.in_ok-curve-2.ensures c.in_ok-eye-2.ensures
          (p.gapped_draws gapped.0 gapped.1) (k.gapped_n ∙ p.n_is) (k.gapped_is ∙ p.seen_is);
      linear = levels-are n _ k.linear linear.0 c.in_ok-curve-3.field-0 c.in_ok-eye-3.field-0 c.in_ok-curve-3.ensures c.in_ok-eye-3.ensures
          (p.linear_draws linear.0 linear.1) (k.linear_n ∙ p.n_is) (k.linear_is ∙ p.seen_is);
      first = curve-of 1000 groups x.first.seen x.first.most (since_at m anchor (firsts_of n stamp)) c.in_ok-finish.field-0
          (c.in_ok-finish.ensures.curve _ drawn.first_draws) x.first_most (x.first_is ∙ came);
      drift = curve-of 8 groups x.drift.seen x.drift.most (since_at m anchor (firsts_of n stamp)) c.in_ok-finish-2.field-0
          (c.in_ok-finish-2.ensures.curve _ drawn.drift_draws) x.drift_most (x.drift_is ∙ came);
      last = curve-of 1000 groups x.last.seen x.last.most (since_at m anchor (lasts_of n stamp)) c.in_ok-finish-3.field-0
          (c.in_ok-finish-3.ensures.curve _ drawn.last_draws) x.last_most (x.last_is ∙ came);
      offset = curve-of 1000 groups x.offset.seen x.offset.most (offset_at m anchor (firsts_of n ticks)) c.in_ok-finish-4.field-0
          (c.in_ok-finish-4.ensures.curve _ drawn.offset_draws) x.offset_most (x.offset_is ∙ came);
      latency = curve-of 1000 groups x.latency.seen x.latency.most (latency_at (firsts_of n stamp) (firsts_of n ticks)) c.in_ok-finish-5.field-0
          (c.in_ok-finish-5.ensures.curve _ drawn.latency_draws) x.latency_most (x.latency_is ∙ came);
    }
