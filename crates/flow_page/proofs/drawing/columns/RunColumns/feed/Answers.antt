use Rattle.std.proofs.Common.{◌≡◌, ◌+◌, ◌-◌, ◌++◌, ◌∷◌, [], length, slice_index, ap, ◌∙◌, sym, arith, length-append}
use Rattle.flow_measure.proofs.Fronts.{last-is}
use Rattle.flow_page.proofs.lemmas.drawing.Feeding.{first-more}
use Rattle.flow_page.proofs.drawing.columns.RunColumns.feed.Goals as goal

pub returns-clause-draws : goal.returns-clause-draws
returns-clause-draws c = λ stamps timestamps is h.
    let s = c.args.self.now in
    let at = c.args.at in
    let m = c.args.params.now.media in
    let n = c.args.params.now.n in
    let new = stamps ++ at ∷ [] in
    let long : length new ≡ length stamps + 1 = length-append stamps (at ∷ []) in
    let last : length stamps ≡ length new - 1 = omega (arith, long) in
    record {
      packets_draw = c.feed.ensures.draws m n stamps at h.packets_draw is;
      groups_draw = c.feed-2.ensures.draws stamps timestamps h.groups_draw;
      first_is = λ _. first-more stamps at s.packets.seen s.first_at c.first_with-self.result h.packets_draw.seen_is c.first_with-self.ensures.first
          c.first_with-self.ensures.later h.first_is;
      last_is = λ _. sym (last-is stamps at) ∙ ap (slice_index new) last;
    }
