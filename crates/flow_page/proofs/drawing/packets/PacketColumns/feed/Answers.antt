use Rattle.std.proofs.Common.{◌≡◌, ◌+◌, ◌++◌, ◌∷◌, [], true, false, length, FitsSigned, ap, ◌∙◌, sym, rules, arith, length-append}
use Rattle.std.proofs.lemmas.Int.{to_z-of_z}
use Rattle.std.specs.Int.{w64, w128}
use Rattle.flow_measure.proofs.Fronts.{buckets-front, occupancies-front}
use Rattle.flow_page.proofs.lemmas.drawing.Feeding.{bucket-last, occupancy-last}
use Rattle.flow_page.proofs.drawing.packets.PacketColumns.feed.Goals as goal

pub returns-clause-draws : goal.returns-clause-draws
returns-clause-draws c = λ m n stamps at h is.
    let s = c.args.self.now in
    let l = c.args.level in
    let long : length (stamps ++ at ∷ []) ≡ length stamps + 1 = length-append stamps (at ∷ []) in
    let from_fits : FitsSigned w128 c.from.result = search rules in
    let gapped_fits : FitsSigned w128 c.from-2.result = search rules in
    let linear_fits : FitsSigned w128 c.from-3.result = search rules in
    record {
      n_is = h.n_is;
      seen_is = omega (arith, h.seen_is, long);
      bucket_draws = λ level are. c.feed.ensures.draws level (h.bucket_draws level (buckets-front m n stamps at level are))
          (ap level (s.bucket_is ∙ h.seen_is) ∙ bucket-last m n stamps at l level are is ∙ sym (to_z-of_z w128 c.from.result from_fits ∙ c.from.ensures));
      gapped_draws = λ level are. c.feed-2.ensures.draws level (h.gapped_draws level (occupancies-front m n true stamps at level are))
          (ap level (s.gapped_is ∙ h.seen_is) ∙ occupancy-last m n stamps at true l.gapped level are is.gapped
          ∙ sym (to_z-of_z w64 l.gapped.occupancy (search rules)) ∙ sym (to_z-of_z w128 c.from-2.result gapped_fits ∙ c.from-2.ensures));
      linear_draws = λ level are. c.feed-3.ensures.draws level (h.linear_draws level (occupancies-front m n false stamps at level are))
          (ap level (s.linear_is ∙ h.seen_is) ∙ occupancy-last m n stamps at false l.linear level are is.linear
          ∙ sym (to_z-of_z w64 l.linear.occupancy (search rules)) ∙ sym (to_z-of_z w128 c.from-3.result linear_fits ∙ c.from-3.ensures));
    }
